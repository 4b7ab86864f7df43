pub mod SortLaws
pub mod SortedAt
