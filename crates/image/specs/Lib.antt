-- What the code of the sweep of a whole image is proved by: its answers, a round as a whole, and what holds between rounds.
pub mod Results
pub mod Rounds
pub mod Hits
pub mod Walk
pub mod Runs
pub mod Spans
pub mod Rule5
pub mod Sweeping
