pub mod PutLaws
pub mod RunLaws
pub mod CellLaws
pub mod PlanLaws
pub mod RowLaws
pub mod WordLaws
pub mod BlockLaws
