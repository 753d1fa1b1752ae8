-- The theorems, and what they rest on: tables and state once a sweep is started (Ready), what calls pass and are billed for (History), the
-- sweep of one image (Swept), lists of calls (Lists), what a sweep has found at its end (Found).
pub mod Ready
pub mod History
pub mod Swept
pub mod Demand2
pub mod Lists
pub mod Demand3
pub mod Found
pub mod Merge
