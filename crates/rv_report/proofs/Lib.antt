mod Examples
pub mod RangeLimits
pub mod Strings
