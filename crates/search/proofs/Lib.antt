-- Laws of the search: filling a set, parts of it, levels, keys of items; that all codes are the chart; choosing daughters, offering what the
-- rows give, rule by rule, and rules that are alike.
pub mod Filling
pub mod Parts
pub mod Levels
pub mod Steps
pub mod Keys
pub mod Whole
pub mod Choosing
pub mod Offers
pub mod Ruling
pub mod Likeness
