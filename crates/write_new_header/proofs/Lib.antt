pub mod NewLaws
