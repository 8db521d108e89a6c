pub mod Refusals
pub mod LettingGo
pub mod RefusedLines
pub mod MoreRefusedLines
pub mod Unfinished
pub mod ShortRuns
