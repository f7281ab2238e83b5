-- What a lent flash is.
pub mod Lending
