pub mod ringdigits
pub mod tailatom
pub mod tail
