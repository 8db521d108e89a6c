pub mod Counts
pub mod Overflow
pub mod Runs
pub mod Sets
