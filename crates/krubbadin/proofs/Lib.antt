pub mod Checks
pub mod Placed
pub mod Posts
pub mod VirtualNetworks
