-- Laws of asking: parts of the sorted set, one symbol, a chain of symbols, a row from both ends, heights.
pub mod Segments
pub mod Moving
pub mod Chains
pub mod Sharpening
pub mod Heights
