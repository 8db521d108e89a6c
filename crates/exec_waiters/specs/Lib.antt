pub mod Ids
pub mod Told
pub mod States
pub mod Events
pub mod Layout
pub mod Lends
pub mod Examples
