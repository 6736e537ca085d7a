pub mod RaiseLaws
pub mod WrittenLaws
pub mod PassLaws
