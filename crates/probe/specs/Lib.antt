-- Answers as numbers, and the scan state as lent numbers.
pub mod Numbers
pub mod States
