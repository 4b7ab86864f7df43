pub mod Walks
pub mod Checks
