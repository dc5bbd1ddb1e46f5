pub mod Structs
pub mod Refused
pub mod Answers
pub mod Cells
pub mod Fronts
pub mod Receivers
