pub mod LentLaws
pub mod FunctionLaws
