-- Laws of the walk: who is seated, where a daughter is looked for, the steps, what the calls have told; then that what works is a way to the
-- item, that the first is the chosen one, and that there is but one.
pub mod Leading
pub mod Seeking
pub mod Seats
pub mod Steps
pub mod Standing
pub mod Ways
pub mod Picking
pub mod Once
