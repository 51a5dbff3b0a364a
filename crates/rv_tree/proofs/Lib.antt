mod Examples
pub mod Exits
pub mod Fewest
pub mod LeftOver
pub mod Prefixes
pub mod Rows
pub mod Searches
pub mod Turns
