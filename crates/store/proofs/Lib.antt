-- Laws of sorted lists, of a set's calls, of merging, and of packed items: number order is chart order.
pub mod Laws
pub mod Sets
pub mod Merging
pub mod Packing
