mod Examples
pub mod LayoutFacts
pub mod Naming
