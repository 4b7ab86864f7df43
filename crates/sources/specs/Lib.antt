pub mod Sources
pub mod Parts
