pub mod Changes
pub mod Fits
pub mod Over
