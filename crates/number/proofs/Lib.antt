pub mod DigitLaws
pub mod HalfLaws
pub mod SwapLaws
pub mod WriteLaws
