pub mod Flights
pub mod Stretches
