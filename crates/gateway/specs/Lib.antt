-- Answers as numbers, for C.
pub mod Numbers
