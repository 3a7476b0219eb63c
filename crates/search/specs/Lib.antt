-- What one level adds, what the search finds, keys of packed items, places that are walked, what a rule gives with some daughters chosen, the
-- same of a task in short, rules that are alike, and that a sorted list is sorted in one way.
pub mod Ordering
pub mod Level
pub mod Search
pub mod Keys
pub mod Spots
pub mod Tried
pub mod Task
pub mod Likeness
