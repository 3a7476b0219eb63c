-- Sorted sets of numbers, then the numbers that items are packed into.
pub mod Set
pub mod Code
