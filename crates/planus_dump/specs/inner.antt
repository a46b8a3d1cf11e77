pub mod Shown
pub mod Taking
pub mod Feeding
pub mod Writes
pub mod Kept
