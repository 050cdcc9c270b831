pub mod shown
