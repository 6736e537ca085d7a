pub mod CheckedLaws
pub mod NextWordLaws
