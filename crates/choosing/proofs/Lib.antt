pub mod Best
pub mod Passes
pub mod Demand3
pub mod ToldAnswers
pub mod Once
