pub mod chain_shapes
