pub mod InsertLaws
pub mod NextLaws
pub mod LinkLaws
pub mod SectionLaws
pub mod WriteLaws
pub mod PackedLaws
