pub mod TypeLaws
pub mod SortLaws
pub mod WholeLaws
