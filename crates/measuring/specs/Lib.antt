pub mod Bodies
pub mod Grounds
pub mod Weights
