pub mod Laws
mod Loops
pub mod Trip
pub mod Front
