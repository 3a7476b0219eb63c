-- How a row is run from an assumed start, then what the code of ranges, items, rows and rules promises.
pub mod Row
pub mod Phrase
