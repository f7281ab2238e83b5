-- Lemmas: what a clearing and a mending leave.
pub mod Freed
