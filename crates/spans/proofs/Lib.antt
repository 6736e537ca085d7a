pub mod QuotedSpanLaws
pub mod CommentLaws
pub mod TagLaws
pub mod PlaceLaws
pub mod StepLaws
pub mod OpenerLaws
