pub mod Runs
pub mod Means
pub mod Within
pub mod Together
pub mod Whole
mod Examples
pub mod Places
pub mod CallRuns
