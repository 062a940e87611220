-- Worked rows, in reading order.
mod Texts
pub mod WorkedRows
pub mod FloatRowLemmas
pub mod EnlargeRowLemmas
pub mod ColumnRowLemmas
pub mod ColumnEndRowLemmas
pub mod TitleRowLemmas
pub mod SetRowLemmas
pub mod VersionRowLemmas
pub mod RateRowLemmas
pub mod BestRowLemmas
pub mod WhyRowLemmas
pub mod WhyWideRowLemmas
pub mod LinesRowLemmas
pub mod MakeupRowLemmas
