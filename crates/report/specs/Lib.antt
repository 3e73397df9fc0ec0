pub mod Plans
pub mod Results
pub mod Rows
