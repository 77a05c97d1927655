pub mod Command
pub mod Session
pub mod Refusal
pub mod Run
