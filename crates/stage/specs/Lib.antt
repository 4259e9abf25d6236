pub mod Entries
pub mod Curves
pub mod Legs
pub mod Lattices
pub mod Chains
pub mod ChainLaws
