pub mod Given
pub mod Settled
pub mod Permits
pub mod Awaited
pub mod Parked
pub mod Examples
