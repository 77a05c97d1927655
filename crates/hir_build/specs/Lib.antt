pub mod Refusal
pub mod Frame
pub mod Origins
pub mod Callee
pub mod Placed
pub mod Building
pub mod Captures
