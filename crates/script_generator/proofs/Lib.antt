pub mod Below
pub mod Length
