pub mod Examples
pub mod Limited
pub mod Paddings
pub mod Sizes
pub mod Zeros
