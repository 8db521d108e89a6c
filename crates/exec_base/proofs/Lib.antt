pub mod Ends
pub mod Looks
pub mod Slots
pub mod Runs
