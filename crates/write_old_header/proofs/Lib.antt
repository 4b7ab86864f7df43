pub mod OldLaws
