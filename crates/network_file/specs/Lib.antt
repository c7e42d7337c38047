pub mod Fields
pub mod Reading
pub mod Lent
pub mod Writing
pub mod OneFile
pub mod Example
