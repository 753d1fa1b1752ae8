-- What is listed by parts are the hits of the whole image, each part's are a piece of them, and they fit the buffers.
pub mod Part
pub mod Whole
pub mod Fits
