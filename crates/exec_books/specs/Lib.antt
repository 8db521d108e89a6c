pub mod Listed
pub mod Booked
pub mod Reach
pub mod Examples
