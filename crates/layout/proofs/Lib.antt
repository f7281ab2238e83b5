-- Lemmas: loops against the definitions, plans, what the fields of a first block tell, and what a current record is.
pub mod Loops
pub mod Planning
pub mod Firsts
pub mod Currents
