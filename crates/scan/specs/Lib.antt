-- The sweep by bytes: the scan state, starting, the calls that step it, and what they are to answer. And what the code
-- in between asks of tables (Ways), shifts (Shifts) and remembered stretches (Memory), and of a step (Steps, Within); and
-- its answers as the definitions have them (Results).
pub mod State
pub mod Start
pub mod Calls
pub mod Packets
pub mod Answers
pub mod Ways
pub mod Shifts
pub mod Memory
pub mod Steps
pub mod Results
pub mod Within
