-- What the view shows of a node.
pub mod View
