pub mod Classes
pub mod GalleyNodes
pub mod WaitingNodes
pub mod ItemsLeft
pub mod RunEvents
pub mod Happenings
