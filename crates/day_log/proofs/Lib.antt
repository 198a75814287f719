-- Running: running entry after entry. Unaccepted: where a run leaves everything as it was.
pub mod Running
pub mod Unaccepted
