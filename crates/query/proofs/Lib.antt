pub mod Product
pub mod Runs
