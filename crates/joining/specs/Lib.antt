pub mod Safe
pub mod Unlimited
pub mod Continuable
pub mod Call
