pub mod StoreLaws
pub mod OutcomeLaws
pub mod WriterLaws
