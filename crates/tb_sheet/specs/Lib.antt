pub mod Sheet
pub mod StoredSheets
pub mod ApartLists
pub mod Asked
