pub mod Lists
pub mod NameLemmas
pub mod NumberLemmas
pub mod WrongAnswers
