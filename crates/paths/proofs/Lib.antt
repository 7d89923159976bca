pub mod Chains
pub mod Tables
pub mod Asked
pub mod Determined
pub mod Balance
pub mod Alone
pub mod Memory
