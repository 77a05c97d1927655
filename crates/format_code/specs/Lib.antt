pub mod Code
pub mod Laws
pub mod FormatCall
pub mod CallCode
