pub mod Bits
pub mod Words
pub mod Frames
pub mod Ones
pub mod Machine
pub mod Sliding
pub mod Banks
