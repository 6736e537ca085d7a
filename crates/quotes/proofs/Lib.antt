pub mod QuoteMapLaws
pub mod DepthLaws
pub mod ItemLaws
pub mod LimitLaws
