mod Lines
mod Lookup
