-- What the code of the table's check answers, in the words of meaning's definitions.
pub mod Views
