-- Lemmas: what a stopped command below is to the part above.
pub mod Seen
