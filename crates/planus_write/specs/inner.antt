pub mod Backed
pub mod Sharing
pub mod WholeTables
pub mod Written
