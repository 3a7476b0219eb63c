-- Laws of the table's check and of its use marks; last, that each call has one result.
pub mod Laws
pub mod Uses
pub mod Known
pub mod Once
