-- Each module serves that of src/ which has its name.
pub mod Lines
pub mod Opening
pub mod Own
pub mod Parts
pub mod Told
