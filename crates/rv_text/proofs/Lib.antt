pub mod ContentSteps
pub mod DigitSteps
pub mod Runs
pub mod Steps
pub mod StreamLemmas
pub mod StringSteps
pub mod ByteClasses
pub mod LexicalLaw
pub mod LexicalLemmas
pub mod LexicalOnly
pub mod QuotedLemmas
pub mod SpellingLemmas
mod Examples
