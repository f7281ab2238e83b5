-- Lemmas: the newest record, marks along a chain, the table of states, and its counts.
pub mod Newer
pub mod Walks
pub mod Entered
pub mod Tallied
