pub mod Maps
pub mod Rights
pub mod Rounds
