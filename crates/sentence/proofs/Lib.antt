-- Laws of the sentence writer: places, walks, turns, spelling, bounds, what a list tells; last, that the words are those of the one tree.
pub mod Places
pub mod Walks
pub mod Turns
pub mod Spelling
pub mod Bound
pub mod Told
pub mod Theorems
