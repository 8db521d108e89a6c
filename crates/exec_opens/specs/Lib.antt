pub mod Opens
pub mod Examples
