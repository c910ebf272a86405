pub mod DigitLemmas
pub mod NameLemmas
pub mod NumberLemmas
pub mod Powers
