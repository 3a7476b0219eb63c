-- What a reader must believe, in reading order.
pub mod Order
pub mod Range
pub mod Grammar
pub mod Giving
pub mod Chart
pub mod Refusals
pub mod Table
pub mod Decode
pub mod Reading
pub mod TreeWriting
pub mod SentenceWriting
-- What is proved of accepted tables: statements, not to be believed.
pub mod Accepted
pub mod Valid
