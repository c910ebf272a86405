pub mod Histories
pub mod Known
pub mod Passes
pub mod Rules
pub mod Steps
pub mod Tenures
