pub mod Commands
pub mod Pages
pub mod Disassembly
pub mod Transcript
pub mod Edited
pub mod Outcomes
pub mod Steps
pub mod Faults
