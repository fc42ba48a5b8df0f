pub mod Ways
pub mod Components
pub mod Turns
pub mod Refusals
pub mod Places
pub mod Chains
