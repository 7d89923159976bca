pub mod Faults
pub mod Loading
pub mod Records
pub mod Lines
pub mod Starts
