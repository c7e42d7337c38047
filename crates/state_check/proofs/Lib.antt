pub mod Same
pub mod Sessions
