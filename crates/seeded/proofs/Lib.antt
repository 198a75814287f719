-- Drawing: one draw more. Seeding: a seeded tick of a job is the plain tick with the drawn choices.
pub mod Drawing
pub mod Seeding
