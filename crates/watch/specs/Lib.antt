pub mod Refusals
pub mod Opening
