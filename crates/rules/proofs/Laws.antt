-- The laws of the rules: fetches and stretches are few and the sweep ends (Limit), what is remembered after a round is found stretch by
-- stretch (Remember), the hits are the occurrences (Exact) and are known by being them (Ordered), and trees that agree on their nodes are
-- swept alike (Alike). The others serve these.
pub mod Tests
pub mod Fits
pub mod All
pub mod Members
pub mod Over
pub mod Lengths
pub mod Endings
pub mod Words
pub mod Digits
pub mod Hits
pub mod Limit
pub mod Remember
pub mod Exact
pub mod Ordered
pub mod Shortened
pub mod Image
pub mod Alike
