pub mod Count
pub mod Sums
pub mod Order
pub mod Once
pub mod Digits
