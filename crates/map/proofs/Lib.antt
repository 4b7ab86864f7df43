pub mod MapLaws
