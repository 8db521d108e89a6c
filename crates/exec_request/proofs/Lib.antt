pub mod Chunks
pub mod Judging
pub mod Left
pub mod Moving
