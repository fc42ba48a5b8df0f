pub mod Insides
pub mod Laws
pub mod Tests
pub mod Walks
pub mod Weights
