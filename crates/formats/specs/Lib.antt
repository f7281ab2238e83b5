-- How words lie in bytes, in the order in which to read it: bytes, forms, the form of an image, the form of cells.
-- Then the laws of the two forms with their proofs, which each names where it is a format: digits, four bytes, an image, cells.
pub mod Bytes
pub mod Forms
pub mod Image
pub mod Cells
pub mod Digits
pub mod Fours
pub mod ImageLaw
pub mod CellsLaw
