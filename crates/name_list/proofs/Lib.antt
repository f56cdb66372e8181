pub mod Held
pub mod Judging
pub mod Loading
pub mod Numbers
