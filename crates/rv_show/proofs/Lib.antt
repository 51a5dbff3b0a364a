pub mod Columns
pub mod Distances
mod Examples
pub mod Joining
pub mod LastMarks
