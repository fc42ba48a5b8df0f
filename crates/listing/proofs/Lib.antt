pub mod TextsInTurn
pub mod DigitsInTurn
pub mod LinesInTurn
pub mod Carried
pub mod RulesBacked
pub mod Sizes
pub mod NeverShort
pub mod Answers
