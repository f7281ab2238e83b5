-- Lemmas: words made blank one by one, and that a simulated flash keeps the flash rules.
pub mod Blanked
pub mod Obeyed
