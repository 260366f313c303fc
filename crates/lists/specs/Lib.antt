-- what a reader must believe, in the order of document 01
pub mod Bytes
pub mod Codec
pub mod Record
pub mod Read
pub mod Write
pub mod Walk
pub mod Line
