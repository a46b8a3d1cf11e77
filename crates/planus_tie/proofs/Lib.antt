pub mod Lined
pub mod Parts
pub mod Tied
