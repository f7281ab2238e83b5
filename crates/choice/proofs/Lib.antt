-- Lemmas: lists of blocks; the first block of use; blocks taken from a chain; groups; the round of a flash; a block that is marked as spent; what the tables give; free blocks suit a record.
pub mod Held
pub mod Finds
pub mod Takes
pub mod Groupings
pub mod Rounds
pub mod Spending
pub mod Tabling
pub mod Suiting
