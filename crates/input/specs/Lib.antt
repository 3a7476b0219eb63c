-- What the code of the words answers, in the words of meaning's definitions.
pub mod Views
