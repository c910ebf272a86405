-- The definitions of timestamps: orders, lattices, pairs, frontiers and representatives.
pub mod Times
pub mod Order
pub mod Frontiers
pub mod Representatives
pub mod Naturals
pub mod Pairs
pub mod Bitimes
