pub mod Diagnostics
pub mod Json
pub mod Published
