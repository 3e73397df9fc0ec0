pub mod Admission
pub mod Drafts
pub mod Equation
pub mod Fitting
pub mod Growth
pub mod Response
pub mod Times
pub mod Verdicts
