pub mod Actions
pub mod Acts
pub mod Comparisons
pub mod Explanations
