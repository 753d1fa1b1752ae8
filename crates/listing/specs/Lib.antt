-- What the program lists: the hits of an image by parts, the lines, and which comes first.
pub mod Parts
pub mod Lines
pub mod Opening
