pub mod PlaceLaws
pub mod DataLaws
