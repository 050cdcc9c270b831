pub mod Atom
