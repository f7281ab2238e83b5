-- Lemmas: what a call does to a flash's value, it does to its meaning; the block count stays; what was decided comes about; blocks cleared one after another; what an erase and a write decide.
pub mod Means
pub mod Counted
pub mod Performing
pub mod Clearings
pub mod Erasing
pub mod Writing
