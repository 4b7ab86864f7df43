pub mod Logic
pub mod Cuts
pub mod Places
pub mod Reasons
pub mod HeaderReasons
pub mod Comes
pub mod Demands
