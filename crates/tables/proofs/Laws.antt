-- The laws of the tables: what one node more, one word more and all words do to their
-- shape (Shape to WordsAdded), which numbers words have (Numbering), that inserting makes the built tables (Same), and that these
-- stand for exactly the endings of the words (Nodes, Sound, Represents); what building gives when it made them (Made); the hits of a
-- round, by climbing (Hits); and what holds of any tables that refusal 9 does not meet (Unbroken).
pub mod Shape
pub mod NodeAdded
pub mod Order
pub mod WordAdded
pub mod WordsAdded
pub mod Numbering
pub mod Nodes
pub mod Same
pub mod Sound
pub mod Represents
pub mod Made
pub mod Hits
pub mod Unbroken
