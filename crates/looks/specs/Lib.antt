-- What a flash that counts its looks is.
pub mod Counting
