-- The laws of building and of walks: the walk along a chain (Chain), the root's children by label (Kids), the test node by node (NodeByNode),
-- and what of it hangs on a list alone (Bare), insertion into lent tables, by bytes, words and tokens (Over to TokensInPlace), the walks of
-- words that find the shifts (FillingInPlace, WalksInPlace), both record by record (ByPlaces), that the walks give each node its shift
-- (Filling, Shifts), the answer (Answer, and by the tree alone Unshifted), and its number and value (Numbers).
pub mod Chain
pub mod Kids
pub mod NodeByNode
pub mod Bare
pub mod Over
pub mod InPlace
pub mod WordInPlace
pub mod TokensInPlace
pub mod FillingInPlace
pub mod WalksInPlace
pub mod ByPlaces
pub mod Filling
pub mod Shifts
pub mod Answer
pub mod Unshifted
pub mod Numbers
