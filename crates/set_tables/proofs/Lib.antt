pub mod SameLaws
pub mod MarkLaws
pub mod NumberLaws
pub mod PassLaws
pub mod StartLaws
pub mod FoundLaws
