mod Records
pub mod Choosing
pub mod Extents
pub mod Outcomes
pub mod Reading
pub mod RefusedRecords
pub mod ShownRows
pub mod Texts
pub mod Widths
