-- The customer's demands 2 and 3 as statements over the definitions that the calls' contracts cite, and what is promised of merged
-- books. The theorems are in proofs/ (`Laws.Demand2.demand2`, `Laws.Demand3.demand3`, `Laws.Merge.valid` and `union`, `Laws.Found.sweeps-end`).
pub mod Demand2
pub mod Demand3
pub mod Merge
