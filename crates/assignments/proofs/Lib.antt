pub mod AssignmentTextLaws
pub mod RestLaws
