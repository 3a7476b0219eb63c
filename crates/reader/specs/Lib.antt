-- What the code of the reader finds on its way to the answer. What it answers is meaning's `Read`.
pub mod Records
pub mod Answers
