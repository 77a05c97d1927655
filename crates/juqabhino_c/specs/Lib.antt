pub mod Growing
pub mod Words
pub mod Handing
pub mod InMemory
pub mod Questions
pub mod Shown
