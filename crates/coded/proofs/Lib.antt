pub mod NumberLaws
pub mod WholeLaws
