pub mod TypesLaws
