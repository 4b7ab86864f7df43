pub mod AcrossLaws
