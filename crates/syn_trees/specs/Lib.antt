pub mod StringToken
pub mod Escape
pub mod Literal
pub mod ReadString
pub mod Trees
pub mod Laws
pub mod ReadQuoted
