-- `seeded::cycles` meets its contract. The check finds this alone; it is said so that an edit of the draws is refused for what it breaks.
use Rattle.seeded.proofs.cycles.Goals as goal

pub cycles_by-requires-clause-turn : goal.cycles_by-requires-clause-turn
cycles_by-requires-clause-turn c =
    c.requires.turn
