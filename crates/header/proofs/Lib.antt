pub mod NumberLaws
pub mod TextLaws
pub mod NewLaws
pub mod OldLaws
