pub mod Readings
pub mod Parts
