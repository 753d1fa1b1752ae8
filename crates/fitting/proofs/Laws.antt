-- The promise holds, and only one answer keeps it (Tells). Numbers: what an answer tells as an outcome.
-- For the functions' proofs:
-- Of `lib.rt`, over plain lists and numbers.
pub mod Tells
pub mod Numbers
pub mod Fitting
