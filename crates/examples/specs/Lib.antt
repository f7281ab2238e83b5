-- Worked examples of the layout.
pub mod Worked
