-- What opening a quantum and counting one of its ticks do to the words.
pub mod Clock
