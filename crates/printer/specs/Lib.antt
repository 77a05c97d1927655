pub mod Assembly
pub mod Mapping
pub mod Printed
pub mod Statements
pub mod Summary
