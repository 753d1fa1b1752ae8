-- The tree tables: the built ones, the rules' tree that tables are, and which are none; how tables grow by a word, their shape,
-- and that they stand for the words.
pub mod Tables
pub mod Walks
pub mod Broken
pub mod Shape
pub mod Represents
pub mod Unbroken
pub mod Inserted
