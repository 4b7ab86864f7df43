pub mod CellLaws
pub mod KeyLaws
