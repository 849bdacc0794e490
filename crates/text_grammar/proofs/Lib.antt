pub mod WordSteps
pub mod Exprs
pub mod Conds
pub mod Stmts
pub mod Lists
pub mod Files
pub mod Views
pub mod Calls
