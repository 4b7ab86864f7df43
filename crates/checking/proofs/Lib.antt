pub mod PlaceLaws
pub mod DataLaws
pub mod RestLaws
pub mod WalkLaws
pub mod CheckLaws
