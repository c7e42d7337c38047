pub mod Characters
pub mod Digits
pub mod Lines
pub mod Inner
