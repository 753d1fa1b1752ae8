-- The laws of merging: how the second book is gone through (Walk), what one token of it more makes of the merged book (More), and that the
-- merged book is read as its tokens (Valid). Numbers: what an answer tells as an outcome.
-- For the functions' proofs:
-- The loops of `survey` and of `write`, and what `join` and `merge` make of them, over plain lists.
pub mod Walk
pub mod More
pub mod Valid
pub mod Numbers
pub mod Survey
pub mod Write
pub mod Join
pub mod Merge
