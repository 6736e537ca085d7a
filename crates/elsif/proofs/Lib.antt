pub mod ElsifLaws
