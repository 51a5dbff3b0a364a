pub mod GivenNames
pub mod ShownTables
pub mod Tables
