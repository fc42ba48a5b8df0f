pub mod Lists
pub mod Meanings
