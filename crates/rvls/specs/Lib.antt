pub mod DocumentDiagnostics
pub mod NameAnswers
pub mod QuickFixes
pub mod Refusals
pub mod Steps
