pub mod Operands
pub mod Code
pub mod Placing
pub mod Mapping
pub mod Text
pub mod Heads
pub mod Rows
pub mod Lowered
