-- What is read of a flash by looks: answers, heads of records, tables of states, and the table of all current records.
pub mod Answered
pub mod Heads
pub mod Entries
pub mod Tables
