pub mod Judging
pub mod Once
pub mod RestOfWords
pub mod Steps
pub mod WellFormed
