mod Computing
mod Apart
mod SameIs
mod Onward
mod Lasting
mod AllResults
mod OnePoll
mod Elsewhere
mod Resting
pub mod Polled
