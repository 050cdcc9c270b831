pub mod Brackets
