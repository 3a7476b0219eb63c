-- Document 01's worked cases.
pub mod Worked
