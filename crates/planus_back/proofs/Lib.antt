pub mod Multiples
pub mod Lengths
pub mod Lists
pub mod PaddingLaws
pub mod Asked
pub mod Places
pub mod Blocks
pub mod Buckets
pub mod Caches
pub mod Hashes
mod Runs
mod Deeds
pub mod Same
