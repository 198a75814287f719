-- What a worker's cycle and a tick's cycles ask and promise.
pub mod Turns
