-- Which requests can be carried out.
pub mod Requests
