pub mod StoryLemmas
pub mod LineLemmas
