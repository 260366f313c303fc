-- what a turn decides, and what that makes of a store
pub mod Turned
pub mod Move
pub mod Effect
