pub mod ListsOfLibrary
pub mod RunLaws
