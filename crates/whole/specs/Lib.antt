-- What the sweep of a whole image answers and leaves.
pub mod Image
