pub mod Numbers
pub mod Distinct
pub mod Slots
pub mod Layouts
pub mod Names
pub mod Plans
pub mod Spelling
pub mod Keys
