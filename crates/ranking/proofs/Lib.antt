pub mod ComponentsInTurn
pub mod Keys
pub mod Laws
pub mod LeadingBits
pub mod LeftInTurn
pub mod OperatorsInTurn
pub mod Orders
