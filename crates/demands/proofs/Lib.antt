-- read Demands first
pub mod Account
pub mod Bench
pub mod Demands
pub mod Listed
pub mod Lengths
pub mod Said
pub mod Follows
pub mod Equations
pub mod Runs
pub mod Worked
