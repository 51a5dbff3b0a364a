pub mod Positions
pub mod Edits
pub mod Borders
pub mod LinesLeft
pub mod Windows
pub mod Changes
pub mod Frames
