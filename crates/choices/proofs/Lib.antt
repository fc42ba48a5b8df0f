pub mod Limits
pub mod WidthTable
