-- That each worked case holds.
pub mod Worked
