pub mod Groups
pub mod Meanings
pub mod Truths
