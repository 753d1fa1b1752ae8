-- The laws of accepted books: their records (Taken, Records), what holds of their tokens (Accepted), and of sweeps with them (Sweep); what their
-- bytes are, and that a book made of tokens is read as these (Bytes). Then of any book: how much of it tells how it is read (Prefix), and
-- the bodies of its records (Bodies).
-- For the functions' proofs:
-- The loops of `read` and of `token` over plain lists, the marks of `filter`, and the comparisons of `words`.
pub mod Taken
pub mod Accepted
pub mod Records
pub mod Sweep
pub mod Prefix
pub mod Bytes
pub mod Bodies
pub mod Read
pub mod Token
pub mod Filter
pub mod Words
