pub mod Next
pub mod Held
