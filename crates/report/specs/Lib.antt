-- what a reader must believe, in the order of document 01
pub mod Text
pub mod Cursor
pub mod Decimal
pub mod Hex
pub mod Events
pub mod Actions
pub mod Form
pub mod Bench
