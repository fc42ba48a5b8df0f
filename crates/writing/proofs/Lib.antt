pub mod Laws
pub mod Once
pub mod Stores
pub mod Turns
pub mod Ways
