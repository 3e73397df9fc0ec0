pub mod Holding
pub mod TableLaws
