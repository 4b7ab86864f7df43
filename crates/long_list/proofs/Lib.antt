pub mod ListsLaws
pub mod TellLaws
pub mod LongLaws
pub mod LongsAt
pub mod OpenLaws
