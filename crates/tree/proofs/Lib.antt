-- Laws of the tree writer: ranks, records, trees, writing, the recursion's steps, the way to the answer; last, that there is one result and
-- that a refusal writes nothing.
pub mod Ranks
pub mod Records
pub mod Trees
pub mod Laws
pub mod Steps
pub mod Judging
pub mod Theorems
