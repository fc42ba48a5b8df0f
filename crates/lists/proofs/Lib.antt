pub mod Operators
pub mod Equations
pub mod Chains
pub mod Places
pub mod Records
pub mod Laws
pub mod Runs
pub mod Turns
