pub mod Entries
pub mod Keys
pub mod Products
pub mod Reduced
pub mod Evaluation
pub mod JoinClosures
pub mod Listing
