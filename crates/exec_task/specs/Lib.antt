pub mod Examples
pub mod Phases
pub mod Polls
pub mod Sight
pub mod TaskRuns
pub mod TaskSet
