pub mod RecordLaws
pub mod WalkLaws
pub mod TableLaws
pub mod LinkLaws
pub mod PassLaws
pub mod EndLaws
pub mod RuleLaws
pub mod StrlLaws
