pub mod Counts
pub mod Publications
pub mod ShownRows
pub mod WindowLaws
pub mod Written
