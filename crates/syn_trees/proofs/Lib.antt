pub mod Plain
pub mod Raw
pub mod RawStarts
pub mod Tokens
pub mod Units
pub mod Digits
pub mod Unescaped
mod EscapeExamples
pub mod Literals
pub mod Values
pub mod Quotes
pub mod Lengths
pub mod AsWritten
