pub mod Words
pub mod Live
pub mod Plays
pub mod Idle
pub mod Notify
pub mod Search
pub mod Examples
