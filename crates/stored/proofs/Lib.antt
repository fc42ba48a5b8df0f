pub mod Distinguishers
pub mod Inverse
pub mod Scans
pub mod Views
pub mod Words
