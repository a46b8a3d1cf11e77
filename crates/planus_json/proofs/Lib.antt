pub mod Printing
mod Texts
mod Names
mod FixedTrees
mod TableTrees
mod Answering
