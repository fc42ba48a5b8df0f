pub mod Forms
pub mod Prefixes
