pub mod Assembled
pub mod PlacedDocuments
