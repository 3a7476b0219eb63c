-- Laws of digits, of one turn of a row, of the loops over sets, of each kind of symbol, of a whole row, then that rows are independent.
pub mod Digits
pub mod Turning
pub mod Sets
pub mod ByKind
pub mod Rowing
pub mod Whole
pub mod Independent
pub mod Entering
pub mod Mirrored
pub mod Next
