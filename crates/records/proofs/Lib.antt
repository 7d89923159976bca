pub mod Words
pub mod StartWords
pub mod OneDecoding
