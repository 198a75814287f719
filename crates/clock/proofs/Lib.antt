-- Opening: a quantum opens. Ending: a tick is counted, and closes the quantum where it is its last.
pub mod Opening
pub mod Ending
