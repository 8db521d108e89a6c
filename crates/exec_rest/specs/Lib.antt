pub mod Places
pub mod Rested
pub mod AtRest
pub mod Posted
pub mod Examples
