mod Degrees
mod Judged
mod Joined
mod Loops
mod Numbered
mod Packed
mod TurningLoops
