pub mod Script
pub mod Depths
mod Examples
