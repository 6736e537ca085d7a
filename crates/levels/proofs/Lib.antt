pub mod AheadLaws
pub mod GivenLaws
pub mod TurnLaws
