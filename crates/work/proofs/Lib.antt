-- Working: what a work cycle does to the parts, and then to the memory.
pub mod Working
