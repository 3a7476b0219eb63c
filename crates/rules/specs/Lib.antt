-- What the walks over an accepted table answer.
pub mod Walk
pub mod Index
pub mod Symbols
pub mod Found
