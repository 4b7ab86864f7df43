pub mod DateLaws
pub mod ListTexts
