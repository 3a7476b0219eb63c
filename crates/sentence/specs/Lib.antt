-- What the code of the sentence writer finds on its way to the answer. What it answers is meaning's `SentenceWritten`.
pub mod Nodes
pub mod Speech
pub mod Answers
