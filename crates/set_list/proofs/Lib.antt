pub mod EntryLaws
pub mod SetLaws
pub mod SetsAt
