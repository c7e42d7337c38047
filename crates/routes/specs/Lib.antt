pub mod Hops
pub mod Inner
