-- what the inner functions rest on, and what a move makes of a store
pub mod Says
pub mod Effects
