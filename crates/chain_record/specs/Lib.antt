pub mod plain
pub mod parsed
pub mod refusal
