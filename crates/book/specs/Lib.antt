pub mod Fault
pub mod Reading
pub mod Column
pub mod Token
pub mod Value
pub mod Line
pub mod Book
