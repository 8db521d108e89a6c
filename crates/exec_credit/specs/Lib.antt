pub mod CallCredit
pub mod Spins
