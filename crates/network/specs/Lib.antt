pub mod Network
pub mod Checks
