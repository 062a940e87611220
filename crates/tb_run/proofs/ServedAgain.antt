-- What can be served again, in reading order.
pub mod GalleyRuns
pub mod BackNodes
pub mod FiredNodes
pub mod EasedWorks
pub mod ServedTexts
pub mod ServedOut
pub mod ServedFirings
