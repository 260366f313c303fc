-- what the inner functions compute: contracts inside the crate cite it, no promise does
pub mod Pieces
