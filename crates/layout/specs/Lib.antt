-- The layout of records, in the order in which to read it: plans and sizes, fields, the code, soundness, records, states of blocks; then what plans and blocks mean that the code holds.
pub mod Sizes
pub mod Fields
pub mod Code
pub mod Sound
pub mod Records
pub mod States
pub mod Plans
pub mod Refused
pub mod Reads
