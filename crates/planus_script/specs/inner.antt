pub mod Outputs
pub mod Steps
