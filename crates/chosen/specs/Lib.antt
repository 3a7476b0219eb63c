-- The walk for an item's chosen function and daughters, the quest of a rule that gives it, then what the walk answers.
pub mod Walk
pub mod Quest
pub mod Chosen
