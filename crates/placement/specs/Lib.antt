pub mod chain_notes
pub mod chain_strand
