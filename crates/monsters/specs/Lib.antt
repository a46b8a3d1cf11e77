pub mod Equipment
pub mod Verified
