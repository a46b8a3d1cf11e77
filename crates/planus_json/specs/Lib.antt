pub mod Trees
pub mod Json
pub mod Outcomes
pub mod Texts
pub mod inner
