-- Amounts in range, in reading order.
pub mod PageableLemmas
pub mod SizedLemmas
pub mod KeptLemmas
pub mod PrunedLemmas
