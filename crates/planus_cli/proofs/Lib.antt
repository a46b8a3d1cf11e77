pub mod Included
pub mod Reported
pub mod Distances
pub mod Nearest
pub mod Fits
pub mod SpelledFiles
pub mod Sized
pub mod LoadedFiles
pub mod RunFiles
pub mod Seen
mod ViewedBuffer
mod Failing
mod Led
mod PrintedJson
pub mod Listed
mod Rows
mod Deeper
pub mod Conformed
