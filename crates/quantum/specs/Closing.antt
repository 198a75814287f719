-- What the functions of this crate ask and promise. The promises are equations with the definitions of `model`.
use Rattle.std.specs.Prelude.{◌≡◌, ℕ, ◌*◌, ◌≤◌}
use Rattle.model.specs.Plan.{Growth, Terms, longest_quantum}
use Rattle.model.specs.Machine.{Wish, efficient, satisfied, next_wish, desire_at, most_workers, last_power}
use Rattle.model.specs.Statements.{Responsive, GrowthMost}
use Rattle.growth.specs.Meaning.{growth_of}
use Rattle.quantum.specs.declared.Terms.{Terms as CodeTerms}
use Rattle.quantum.specs.declared.Wish.{Wish as CodeWish}

-- the model's wish of these numbers
abbrev pub wish_of : CodeWish → Wish
wish_of w = record { power = w.power; desire = w.desire }

-- the model's terms of these
abbrev pub terms_of : CodeTerms → Terms
terms_of t = record { growth = growth_of t.growth; utilization = t.utilization; quantum_length = t.quantum_length }

-- the desire is that of its power, at most 64, for an R of 2 to 7 or of 12 to 20 tenths
pub record Desired (growth : Growth) (wish : Wish) : Type 0 where
  pub responsive : Responsive growth
  pub few_bits : GrowthMost growth
  pub is_power : wish.desire ≡ desire_at growth wish.power
  pub at_most : wish.desire ≤ most_workers
  pub power_at_most : wish.power ≤ last_power

-- at most 64 workers used at most 65,535 ticks
pub record Closable (growth : Growth) (wish : Wish) (usage : ℕ) : Type 0 where
  pub desired : Desired growth wish
  pub usage_fits : usage ≤ most_workers * longest_quantum

pub record Closed (terms : Terms) (wish : Wish) (granted usage : ℕ) (r : Wish) : Type 0 where
  pub next : r ≡ next_wish terms.growth wish (efficient terms usage granted) (satisfied wish.desire granted)
