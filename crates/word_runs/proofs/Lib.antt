pub mod AreaLaws
pub mod ColumnLaws
