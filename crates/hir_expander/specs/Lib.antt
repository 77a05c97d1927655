pub mod CurrentFile
pub mod Machine
pub mod Answers
pub mod Gate
pub mod Reached
pub mod Nested
pub mod Table
