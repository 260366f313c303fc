-- what a reader must believe, in the order of document 01
pub mod Refusals
pub mod Refused
pub mod Kind
pub mod Record
pub mod Figure
pub mod Agree
pub mod Account
pub mod Event
pub mod Ledger
pub mod Demand
