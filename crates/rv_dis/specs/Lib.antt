pub mod Assembling
pub mod Rows
pub mod Text
