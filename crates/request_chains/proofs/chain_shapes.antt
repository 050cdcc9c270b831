pub mod Sn
