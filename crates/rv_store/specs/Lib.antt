pub mod LinesOfTexts
pub mod Shown
pub mod Symbols
pub mod internal
