pub mod StepLaws
pub mod SeqLaws
pub mod TagLaws
pub mod WalkSteps
pub mod PartLaws
pub mod TimesLaws
pub mod FieldLaws
pub mod WalkOn
