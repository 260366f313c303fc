-- what the functions over a lent store answer
pub mod Scan
