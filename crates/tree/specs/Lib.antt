-- What the code of the tree writer finds on its way to the answer. What it answers is meaning's `TreeWritten`.
pub mod Writing
pub mod Once
pub mod Answers
