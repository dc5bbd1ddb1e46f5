pub mod Join
pub mod Ends
pub mod Traced
pub mod Survives
pub mod Found
pub mod Bounds
pub mod Extend
