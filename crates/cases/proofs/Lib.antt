pub mod Cases01
pub mod Cases02
pub mod Cases03
pub mod Cases04
pub mod Cases05
pub mod Cases06
pub mod Cases07
