pub mod Stopping
pub mod Shutdown
pub mod Examples
