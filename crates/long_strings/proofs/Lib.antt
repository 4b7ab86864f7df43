pub mod LongLaws
