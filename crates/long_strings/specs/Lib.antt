pub mod Longs
