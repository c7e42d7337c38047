pub mod State
pub mod Inner
