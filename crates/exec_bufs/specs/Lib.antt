pub mod Buffers
pub mod Lending
