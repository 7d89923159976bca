pub mod Both
pub mod Meaning
pub mod Words
