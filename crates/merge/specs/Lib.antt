-- Two books as one, what the code's answers say of it, and what its steps hand on.
pub mod Merge
pub mod Answers
pub mod Steps
