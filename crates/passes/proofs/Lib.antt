pub mod StageLaws
pub mod BufferEndLaws
