pub mod Flaw
pub mod Packed
pub mod Units
