-- The firing, in reading order.
pub mod ClassesTaken
pub mod ReadingLemmas
pub mod TakenLists
pub mod NotesTaking
pub mod DroppedNotes
pub mod VoidBoxes
pub mod HoldLemmas
pub mod OutputLemmas
pub mod OutputTurns
pub mod GoalLemmas
pub mod ServedWork
pub mod ServingLemmas
pub mod ServeLemmas
pub mod FiringLemmas
pub mod FireLemmas
