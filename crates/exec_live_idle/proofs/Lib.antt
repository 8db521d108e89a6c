pub mod Sets
pub mod Keeps
pub mod Allowed
