pub mod DocumentSymbols
pub mod LineNames
pub mod LocalLabels
pub mod MeantNames
pub mod Modifiers
pub mod NamesElsewhere
pub mod RenamedNames
