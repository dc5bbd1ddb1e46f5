pub mod Refusal
pub mod Sender
