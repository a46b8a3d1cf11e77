pub mod Fields
pub mod Contents
pub mod lemmas
