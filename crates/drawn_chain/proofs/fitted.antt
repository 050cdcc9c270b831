pub mod Drawing
pub mod Laying
