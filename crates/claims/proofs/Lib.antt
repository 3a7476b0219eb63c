-- The theorems across calls.
-- heights: Deep is never given, and all heights up to the greatest occur
pub mod Heights
-- two tables that are checked alike, and what is then allowed for both
pub mod Alike
pub mod Windows
pub mod Carry
-- the first 40,000 bytes
pub mod FirstBytes
-- the order of rules
pub mod Permutation
pub mod Moved
pub mod Blocks
pub mod RuleOrder
-- what passes the tree writer's check, and the reader's own charts
pub mod Passed
-- the writers and the reader, one after the other
pub mod Spoken
pub mod RoundTrip
