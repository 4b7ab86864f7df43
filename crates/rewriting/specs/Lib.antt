pub mod Held
pub mod Rewriting
