-- What the proof of `states::lay` cites.
pub mod States
