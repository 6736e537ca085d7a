pub mod SectionRecords
pub mod Chain
