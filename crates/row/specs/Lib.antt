-- The definitions of rows: projections, routing, tests and text.
pub mod Projection
pub mod Routing
pub mod Filters
pub mod Text
