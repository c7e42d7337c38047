pub mod Layouts
pub mod Sizes
mod Turns
mod Cases
mod Pieces
pub mod Maps
pub mod WriteRead
pub mod ReadWrite
pub mod OneRecord
pub mod Front
