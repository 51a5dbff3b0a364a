pub mod Accumulate
pub mod Counted
pub mod Extents
pub mod SetAt
