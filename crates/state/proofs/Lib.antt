pub mod Within
pub mod Replies
pub mod Searches
pub mod Releases
pub mod SetUps
