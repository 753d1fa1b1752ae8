-- The revocation book, the bytes of one made of tokens, its records, the marks of its repeat test, and what the code's answers say in document 01's
-- numbers.
pub mod Book
pub mod Bytes
pub mod Filter
pub mod Answers
pub mod Records
