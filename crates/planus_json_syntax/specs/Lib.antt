pub mod Strings
pub mod Tokens
pub mod Values
pub mod Reading
pub mod Steps
pub mod Spelling
pub mod Texts
