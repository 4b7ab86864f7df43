pub mod RecordLaws
pub mod TextLaws
pub mod TableLaws
pub mod BlockLaws
pub mod EndedLaws
