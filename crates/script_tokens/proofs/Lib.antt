pub mod Characters
pub mod Signs
pub mod ReadWords
pub mod RawStarts
pub mod Opens
pub mod Spellings
pub mod Tokens
pub mod Before
pub mod Ahead
pub mod Lines
pub mod Items
pub mod WordRuns
pub mod Numbers
pub mod Many
pub mod ItemEnds
mod Examples
mod ReaderExamples
