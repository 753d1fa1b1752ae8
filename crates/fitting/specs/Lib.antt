-- Where a token stops fitting an image; what the code answers; what is promised of it.
pub mod Fitting
pub mod Answers
pub mod Promise
