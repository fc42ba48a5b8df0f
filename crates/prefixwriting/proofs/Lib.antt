pub mod Inverse
pub mod Puts
