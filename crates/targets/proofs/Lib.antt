pub mod TargetNameLaws
pub mod WalrusLaws
pub mod MarkingLaws
