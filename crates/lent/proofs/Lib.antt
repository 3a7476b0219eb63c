-- What a lent record states, its order, its daughters, and that all of it decides whether the record is sound; last, that there is one answer.
pub mod Statings
pub mod Ordering
pub mod Judging
pub mod Entries
pub mod Sounding
pub mod Once
