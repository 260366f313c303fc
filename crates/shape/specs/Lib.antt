-- what a reader must believe of the store, in the order of document 01
pub mod Parts
pub mod Fresh
pub mod Sound
pub mod Step
pub mod Trace
pub mod Turns
pub mod View
pub mod Shaped
pub mod Unused
pub mod Demand
pub mod Case
pub mod Cases
