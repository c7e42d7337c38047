pub mod Digits
pub mod Chains
pub mod Lines
pub mod Pieces
pub mod Long
