pub mod Discarding
