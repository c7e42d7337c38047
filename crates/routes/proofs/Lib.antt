pub mod Tests
pub mod Sought
pub mod Links
pub mod Routes
pub mod Hops
pub mod Steps
pub mod Walks
pub mod HopCycles
