pub mod Streams
pub mod Memory
pub mod Sure
pub mod StdStreams
pub mod ReadWrite
