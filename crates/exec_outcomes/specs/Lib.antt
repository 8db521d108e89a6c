pub mod Text
pub mod Outcomes
pub mod Lawful
pub mod Accounts
