pub mod TableLaws
pub mod BlockLaws
