mod Matching
mod Answering
mod Feeds
mod Fed
mod Writes
mod Walked
mod FixedFeeds
mod FirstLine
mod GoodSchemas
mod Written
mod Leaves
mod Names
mod NoFaults
mod CleanDumps
mod Ending
mod Left
mod Viewed
pub mod Begun
pub mod AsRead
pub mod AsReadParts
mod FlagsSaid
