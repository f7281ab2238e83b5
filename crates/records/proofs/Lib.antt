-- Lemmas: reading a block, walking along a chain, the table of heads, and what a block stands for by its own words.
pub mod Sixteen
pub mod Chains
pub mod Owners
pub mod Headed
pub mod Erased
pub mod Stood
pub mod Tallies
