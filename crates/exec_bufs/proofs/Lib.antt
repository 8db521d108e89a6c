pub mod Chunks
pub mod Poured
pub mod Windows
pub mod Written
