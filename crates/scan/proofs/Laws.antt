-- The laws of the calls. Over tables that represent the tokens: what a state comes to (Walk), that it is in its ranges (Range), and that a
-- call in turn answers what the rules say next, and counts what they took from stretches (Bill, Settle, Turns), a packet too (Feeds). Over any
-- tables that pass refusal 9: a state in its ranges (Within) stays there by a step (Stay) and by a call (Kept, Singly), and carrying on when
-- done changes nothing (Done). Over any tables a packet gives what its bytes give singly (Singly). Slots: the stretches in a state are those
-- laid there. ByLists: what a climb finds hangs on the tables that it reads alone. Numbers: what an answer tells as an outcome.
-- For the functions' proofs:
-- Invariants of the loops, and what the steps come to, over tables, lists and numbers. Each module serves that of src/ whose name it
-- begins with; `Judge` serves the calls of `lib.rt`.
pub mod Slots
pub mod Within
pub mod ByLists
pub mod Bill
pub mod Stay
pub mod Walk
pub mod Range
pub mod Settle
pub mod Turns
pub mod Kept
pub mod Singly
pub mod Feeds
pub mod Done
pub mod Numbers
pub mod Spell
pub mod Shift
pub mod Stretches
pub mod StretchesSift
pub mod StretchesRemember
pub mod Hits
pub mod RangesDepth
pub mod RangesStretches
pub mod RangesDue
pub mod Ranges
pub mod Steps
pub mod StepsChoose
pub mod StepsSettle
pub mod StepsSupply
pub mod Judge
pub mod Packets
