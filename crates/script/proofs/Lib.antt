pub mod SoFar
pub mod Lines
pub mod Steps
pub mod Ends
pub mod OneScript
