-- The contracts of the calls cite the definitions of the crates below; these are for the functions inside.
pub mod Grouped
