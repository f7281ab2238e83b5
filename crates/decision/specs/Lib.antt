-- The calls of a unit, in the order in which to read it: faults; decisions and what may come of one; what each call decides; a write from what a look over the flash finds.
pub mod Faults
pub mod Decisions
pub mod Calls
pub mod Writes
