-- Laws of the reader: slices filled with 0, what is at hand before the search, one record and all records, the goal, the way to the answer;
-- last, yes exactly when some tree spells the sentence.
pub mod Filled
pub mod Inputs
pub mod Entering
pub mod Writing
pub mod Goals
pub mod Answering
pub mod Theorems
