pub mod RequoteLaws
