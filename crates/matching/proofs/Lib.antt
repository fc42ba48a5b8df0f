pub mod Flags
pub mod Laws
pub mod Numbers
pub mod Patterns
pub mod Pieces
pub mod Ranges
pub mod Walks
