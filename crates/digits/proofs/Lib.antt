-- Stores: bytes stored one after the other. Decimal: how many digits a number has. Spelling: its digits, put first to last.
pub mod Stores
pub mod Decimal
pub mod Spelling
