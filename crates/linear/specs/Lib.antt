-- The definitions of linear nodes: ports, outputs and widths.
pub mod Applied
pub mod Ports
pub mod Widths
