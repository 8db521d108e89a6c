pub mod Heights
pub mod Ranks
pub mod Owed
pub mod Effort
pub mod Going
pub mod Granted
pub mod Paced
pub mod Left
