pub mod SourceLaws
pub mod HeadParts
pub mod PartReads
