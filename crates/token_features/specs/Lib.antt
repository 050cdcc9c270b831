pub mod features
