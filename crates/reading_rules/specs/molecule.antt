pub mod Molecule
