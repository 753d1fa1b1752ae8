-- What the calls answer, the walk along a chain, insertion in place and the filling of shifts, which the code's contracts cite.
pub mod Lent
pub mod Answers
pub mod Chain
pub mod InPlace
pub mod Filling
pub mod NodeByNode
