-- What the program's functions promise.
pub mod Judged
pub mod Lines
pub mod Listed
pub mod Program
pub mod Told
