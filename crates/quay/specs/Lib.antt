pub mod Gear
pub mod Load
pub mod Crane
pub mod Dive
pub mod Plate
pub mod Berth
pub mod Verified
