-- what proves each promise: citations, and the laws that only the calls together need
pub mod Typed
pub mod Demand1
pub mod Demand2
pub mod Demand3
pub mod Rules
pub mod Texts
pub mod Cases
pub mod Unique
