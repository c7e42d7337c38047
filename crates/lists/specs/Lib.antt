pub mod Order
pub mod Once
pub mod Count
