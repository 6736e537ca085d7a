pub mod AnswerRecords
