pub mod Counting
pub mod Growing
pub mod Judging
pub mod Monotone
pub mod StoredLines
pub mod Sweeps
