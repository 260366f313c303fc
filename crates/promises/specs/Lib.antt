-- what is promised of the calls, in the order of the demands: read this first
pub mod Calls
pub mod Demand1
pub mod Demand2
pub mod Demand3
pub mod Rules
pub mod Texts
pub mod Cases
pub mod Unique
