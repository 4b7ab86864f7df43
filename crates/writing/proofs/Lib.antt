pub mod Chain
pub mod StandLaws
