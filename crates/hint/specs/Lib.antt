-- What is asked of a daughter that is not chosen, then how a row is walked to find it out.
pub mod Hint
pub mod State
