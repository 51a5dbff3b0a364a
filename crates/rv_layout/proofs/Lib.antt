pub mod AdvanceRows
pub mod ShapeExamples
mod Examples
