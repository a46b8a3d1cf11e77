pub mod Scopes
pub mod Read
pub mod Index
pub mod Numbers
