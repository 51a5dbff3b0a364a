pub mod Fields
pub mod Manual
