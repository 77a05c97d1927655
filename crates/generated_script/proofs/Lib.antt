pub mod Written
pub mod Spelled
pub mod Decimals
pub mod MadeItems
pub mod MadePieces
pub mod MadeScript
pub mod FewPlaced
pub mod MadeFew
