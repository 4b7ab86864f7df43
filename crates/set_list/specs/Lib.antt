pub mod Sets
pub mod Reads
