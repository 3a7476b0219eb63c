-- Laws of the writing of a sentence's words.
pub mod Sentence
