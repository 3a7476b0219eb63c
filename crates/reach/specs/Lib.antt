-- Numbers as sets of bits, what a row can have where daughters of one part are any known ones, what a rule then gives,
-- and the known phrases as sets.
pub mod Bits
pub mod Reach
pub mod Apart
pub mod Mirror
