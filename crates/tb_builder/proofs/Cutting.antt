-- The page is cut, in reading order.
pub mod CutLemmas
pub mod VanishLemmas
pub mod CutPageLemmas
