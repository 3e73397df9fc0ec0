mod HexSteps
pub mod Cuts
