-- what a reader must believe of the run, in the order of document 01
pub mod Lines
pub mod Run
pub mod Demand
pub mod Bench
