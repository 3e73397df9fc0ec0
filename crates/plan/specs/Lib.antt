pub mod Answers
pub mod Bytes
pub mod Fields
pub mod Kinds
pub mod Read
pub mod Records
pub mod Shown
