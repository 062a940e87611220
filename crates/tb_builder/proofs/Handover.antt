-- Nodes are handed over, in reading order.
pub mod JoinLemmas
pub mod WaitLemmas
pub mod FrontLemmas
pub mod FirstLemmas
pub mod BoxLemmas
pub mod CallLemmas
pub mod CopyLemmas
