-- demand 2, and what every step keeps: theorems about the definitions of specs/
pub mod Bench
pub mod Places
pub mod Taken
pub mod Kept
pub mod Shaped
pub mod Exactly
pub mod Next
pub mod Numbers
pub mod Bridge
pub mod Poor
pub mod Unused
pub mod Used
pub mod Trails
pub mod Said
