pub mod WordLaws
pub mod ShownLaws
