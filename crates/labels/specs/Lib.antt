pub mod Sets
pub mod Texts
