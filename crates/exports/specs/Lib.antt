pub mod Exported
pub mod Inner
