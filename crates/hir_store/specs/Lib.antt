pub mod Row
pub mod Tree
pub mod Unfolding
pub mod PartsBelow
pub mod Entries
pub mod Sources
pub mod Store
pub mod Makes
