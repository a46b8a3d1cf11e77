pub mod Searched
pub mod Rising
