-- Laws of the job program: bytes at hand, a turn, a run.
pub mod Laws
