pub mod Surface
pub mod Single
pub mod Deciding
