-- laws that the proofs of several functions cite
pub mod Laws
pub mod Steps
pub mod Deciding
pub mod Rings
pub mod Running
pub mod Turning
