pub mod Tells
pub mod Words
