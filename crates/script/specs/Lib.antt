pub mod Limit
pub mod Contents
pub mod Script
pub mod ReadLines
pub mod Fault
pub mod Laws
