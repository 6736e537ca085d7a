pub mod StatementCutLaws
pub mod FromEndLaws
pub mod FromLaws
pub mod SetTextLaws
pub mod StatementLaws
