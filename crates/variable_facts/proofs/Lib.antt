pub mod TypeLaws
pub mod SortLaws
