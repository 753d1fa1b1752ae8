-- Rule 5 for one word: its tests.
pub mod Tests
