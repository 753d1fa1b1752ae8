-- Samples that the checker computes.
pub mod Examples
