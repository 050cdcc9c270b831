pub mod label_block
