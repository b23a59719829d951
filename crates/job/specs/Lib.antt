-- What the program promises.
pub mod Job
