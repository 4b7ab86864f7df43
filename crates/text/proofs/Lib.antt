pub mod Lay
pub mod TextLaws
