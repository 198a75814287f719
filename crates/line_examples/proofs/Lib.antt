-- Wide: that the limit of lines is met at 64.
pub mod Wide
