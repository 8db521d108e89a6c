pub mod Homes
pub mod Mail
pub mod Looks
pub mod Registrations
pub mod Admissions
pub mod Examples
