pub mod ContentLaws
pub mod MessageLaws
pub mod UsingLaws
pub mod ReadingLaws
pub mod LevelLaws
