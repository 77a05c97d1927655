pub mod Refusals
pub mod CallerLemmas
pub mod Stands
pub mod Complete
pub mod Room
