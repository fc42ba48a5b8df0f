pub mod Accepted
pub mod Addresses
pub mod Laws
pub mod Places
