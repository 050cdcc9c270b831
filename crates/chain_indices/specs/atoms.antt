pub mod Atoms
