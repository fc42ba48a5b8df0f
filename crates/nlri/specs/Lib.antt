pub mod Calls
pub mod Nlri
