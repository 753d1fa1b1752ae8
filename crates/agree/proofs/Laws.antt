-- The law of rule 5 word by word (Least).
-- For the functions' proofs:
-- The loops of `lib.rt` over plain lists and numbers.
pub mod Least
pub mod Agree
