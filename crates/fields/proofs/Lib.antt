-- Laws of what callees answer and of counted loops.
pub mod Laws
