-- What holds of rounds in an image at hand, of the stretches by their places, and of the buffers that take the hits. Numbers: what an answer
-- tells as an outcome.
-- For the functions' proofs:
-- Each module serves that of src/ whose name it begins with; `SweepImage` serves `lib.rt`.
pub mod Loose
pub mod Events
pub mod Places
pub mod Notes
pub mod Down
pub mod Round
pub mod Roots
pub mod Tables
pub mod RoundByRound
pub mod ShortRounds
pub mod Spans
pub mod SpansHold
pub mod WalkChildren
pub mod Walk
pub mod WalkDescend
pub mod WalkAlong
pub mod WalkMark
pub mod Runs
pub mod Rule5
pub mod Caches
pub mod Skim
pub mod Turn
pub mod TurnAttempt
pub mod Rounds
pub mod RoundsSweep
pub mod SweepImage
pub mod Numbers
