pub mod BlockLaws
pub mod LoopLaws
