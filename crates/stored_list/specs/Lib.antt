pub mod Fields
pub mod Numbers
pub mod ListLines
pub mod Runs
pub mod Marks
pub mod Fault
pub mod Tally
pub mod Answers
