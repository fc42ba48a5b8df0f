pub mod BodyOrders
pub mod CanonicalOctets
pub mod EqualRank
pub mod LentRules
pub mod ListOrders
pub mod PairedBodies
pub mod PrefixOrders
pub mod ReadBack
