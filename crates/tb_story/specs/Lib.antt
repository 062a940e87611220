pub mod Story
pub mod Summary
pub mod StoryLines
pub mod Counts
