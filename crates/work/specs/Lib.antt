-- What a work cycle asks and promises.
pub mod Works
