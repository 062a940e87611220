pub mod BoxNames
pub mod GeneratedGalleys
