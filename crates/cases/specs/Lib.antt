pub mod Case
pub mod Schedules
pub mod Worked
