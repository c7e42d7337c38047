pub mod Firsts
pub mod Parts
pub mod Puts
pub mod Pieces
