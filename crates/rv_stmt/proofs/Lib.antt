pub mod DataSizes
pub mod EntryLemmas
pub mod LabelLemmas
pub mod OperandCounts
pub mod Ranges
pub mod RunLemmas
pub mod Sizes
pub mod StatementLemmas
pub mod Wholes
mod DirectiveExamples
mod Examples
mod ExpansionExamples
