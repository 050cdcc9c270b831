pub mod carried_atoms
pub mod atoms
pub mod grouped_atoms
pub mod totals
