-- "Status: 3 finished; else 0 ..; else 2, held, ..; else 1, running."
use Rattle.std.specs.Prelude.{ℕ}
use Rattle.status.specs.declared.Status.{Status}
use Rattle.status.specs.declared.Status.TheVariants.{Fresh, Running, Held, Finished}

abbrev pub status_number : Status → ℕ
status_number Fresh = 0
status_number Running = 1
status_number Held = 2
status_number Finished = 3
