mod Fits
mod Sent
