-- Forms: the rows of model's table. Headers: the fields of a header's bytes.
pub mod Forms
pub mod Headers
