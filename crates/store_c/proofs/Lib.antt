-- what the call from C allows is what the call it makes allows
pub mod Same
