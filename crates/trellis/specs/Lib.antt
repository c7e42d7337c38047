pub mod Trellis
pub mod Paths
pub mod Considered
pub mod Answer
pub mod Forwards
