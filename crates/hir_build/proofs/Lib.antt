pub mod Origins
pub mod Placed
pub mod Within
pub mod Builds
pub mod Captures
mod Placing
mod Lets
