-- What the library's calls hand back: the array holds the answer's numbers; last, that any two results of a call are equal.
mod Laws
pub mod Theorems
