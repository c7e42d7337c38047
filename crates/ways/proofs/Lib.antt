pub mod Running
pub mod Rows
pub mod Hops
