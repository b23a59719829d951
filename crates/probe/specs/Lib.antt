-- What the frames of the tests say: a call as bytes, and the head of an answer.
pub mod Raw
pub mod Head
