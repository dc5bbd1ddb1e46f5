pub mod Call
pub mod Player
pub mod Lines
pub mod Answer
