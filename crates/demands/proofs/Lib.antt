-- Samples that the checker computes, and the laws.
pub mod Examples
pub mod Laws
