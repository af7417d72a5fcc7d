pub mod Tokens
pub mod Reading
pub mod Heads
