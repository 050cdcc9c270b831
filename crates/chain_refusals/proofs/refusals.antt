pub mod Place
pub mod Rising
