mod Standing
mod Opening
mod Telling
mod Delivering
