pub mod LayoutLaws
pub mod AskLaws
pub mod StoreLaws
