pub mod Readings
pub mod Ask
pub mod Fact
