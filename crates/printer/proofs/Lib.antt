pub mod Sizes
pub mod Reading
pub mod Commas
pub mod Options
pub mod Counted
