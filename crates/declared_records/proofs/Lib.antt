pub mod HeldLaws
pub mod GatherLaws
