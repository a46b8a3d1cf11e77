pub mod Boxes
pub mod Shown
