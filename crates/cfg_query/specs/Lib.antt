pub mod Predicate
pub mod Query
pub mod Refusals
