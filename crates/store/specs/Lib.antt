-- what the inner functions answer: contracts inside the crate cite it, no promise does
pub mod Pieces
pub mod Running
