pub mod StoppingTasks
pub mod StoppingSeats
pub mod StoppingOwn
pub mod StoppingSteps
pub mod StoppingOthers
pub mod Stopping
pub mod Shutdown
