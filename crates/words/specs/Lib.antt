pub mod Word
pub mod Bank
pub mod Inner
