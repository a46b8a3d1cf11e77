pub mod Declaring
pub mod Filling
pub mod Names
pub mod Prepared
pub mod Replaying
pub mod Structs
