pub mod smiles
pub mod words
pub mod molecule
pub mod reading
