-- Laws of the walks over an accepted table and of its rules in their order; last, that each call has one result.
pub mod Walks
pub mod RuleThere
pub mod Symbols
pub mod Ordering
pub mod Once
