pub mod Write
pub mod Value
pub mod Evaluation
pub mod Template
pub mod Meaning
