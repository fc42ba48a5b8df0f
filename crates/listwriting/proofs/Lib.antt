pub mod Ends
pub mod Joins
pub mod Laws
pub mod Puts
pub mod Sizes
