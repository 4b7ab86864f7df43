pub mod Lay
pub mod MarkLaws
pub mod TableLaws
pub mod FrontLaws
