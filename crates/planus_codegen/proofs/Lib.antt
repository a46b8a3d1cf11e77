pub mod Printing
pub mod NameLemmas
