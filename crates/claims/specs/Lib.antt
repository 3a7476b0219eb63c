-- What a reader must believe of the theorems across calls, besides meaning's specs.
pub mod Reordered
pub mod Across
