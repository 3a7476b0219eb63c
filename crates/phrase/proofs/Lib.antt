-- Laws of joining and of rows, then of the rule at a place and what it gives; last, that each call has one result.
pub mod Joins
pub mod Runs
pub mod Values
pub mod Turns
pub mod Fit
pub mod RuleThere
pub mod Once
