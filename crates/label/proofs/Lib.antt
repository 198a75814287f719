-- Passing: stretches without byte 10, put together. Search: how far a status's line is found, byte by byte. Part: the part of the sheet
-- that is handed back.
pub mod Passing
pub mod Search
pub mod Part
