pub mod StartLaws
pub mod WidthLaws
