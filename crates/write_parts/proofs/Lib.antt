pub mod EnclosedLaws
