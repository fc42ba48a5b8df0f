pub mod Calls
pub mod Components
pub mod Slots
pub mod Stores
