pub mod Passed
pub mod InOrder
