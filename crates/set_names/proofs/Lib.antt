pub mod OrderLaws
pub mod CompareLaws
pub mod NameLaws
pub mod ListedLaws
