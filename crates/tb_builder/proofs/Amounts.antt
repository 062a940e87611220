-- What is counted and summed, in reading order.
pub mod CountLemmas
pub mod SummedLemmas
pub mod ScanLemmas
