pub mod Words
pub mod Files
pub mod Reading
pub mod Writing
pub mod RoundTrip
pub mod Worked
