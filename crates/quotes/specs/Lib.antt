pub mod QuoteMap
pub mod Items
pub mod Limits
