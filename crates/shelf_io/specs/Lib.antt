pub mod Causes
pub mod Counts
pub mod Opening
