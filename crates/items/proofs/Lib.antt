pub mod Unwinding
pub mod Deriving
pub mod Leading
pub mod Endings
pub mod Writing
