pub mod SetLineLaws
pub mod ListedLaws
