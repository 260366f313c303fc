-- for callers: numbers and records, buffers, what a reading says, the memory, the actions, the walk
pub mod Numbers
pub mod Codecs
pub mod Put
pub mod Rows
pub mod Things
pub mod Refused
pub mod Sized
pub mod Table
pub mod Wire
pub mod Wrote
pub mod Actions
pub mod Said
-- promises about the whole
pub mod RoundTrip
pub mod Walks
pub mod Largest
