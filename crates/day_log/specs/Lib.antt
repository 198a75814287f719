-- What running a log promises.
pub mod Running
