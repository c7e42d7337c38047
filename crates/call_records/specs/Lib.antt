pub mod Records
pub mod Reading
pub mod Served
pub mod Widths
pub mod Inner
