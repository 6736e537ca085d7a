pub mod PrefixLaws
pub mod BackLaws
