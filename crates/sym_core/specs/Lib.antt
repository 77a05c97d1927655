pub mod Name
pub mod Files
