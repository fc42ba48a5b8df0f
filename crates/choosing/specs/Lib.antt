pub mod Choosing
pub mod Passes
