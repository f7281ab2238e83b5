-- Which blocks a call takes, in the order in which to read it: by the definitions of the layout; then by the tables that a pass over the flash fills.
pub mod Choosing
pub mod Tables
