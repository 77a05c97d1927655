pub mod Runs
pub mod Place
pub mod Rules
pub mod Reading
pub mod Seen
pub mod Whole
pub mod Many
pub mod Part
