pub mod CallFalls
pub mod Entering
pub mod First
pub mod Due
pub mod Rings
pub mod Spins
