pub mod NextLaws
pub mod HeldLaws
pub mod RunLaws
