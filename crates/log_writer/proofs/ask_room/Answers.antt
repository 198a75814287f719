-- `log_writer::ask_room` meets its contract: past the buffer's end there is no room. Assumes nothing.
use Rattle.std.proofs.Common.{suc, ◌+◌, ◌≤◌, ◌<◌, arith, refl}
use borrow.Author.Tests.{le-leb, lt-leb}
use Rattle.model.specs.Questions.{first_no}
use Rattle.log_writer.proofs.ask_room.Goals as goal

pub returns-then-saturating_sub-more : goal.returns-then-saturating_sub-more
unfolding first_no
returns-then-saturating_sub-more c =
    let short : c.args.length < c.args.size + suc c.args.more = omega (arith, c.saturating_sub.ensures) in
    rw (lt-leb (c.args.size + suc c.args.more) c.args.length short) refl

pub returns : goal.returns
unfolding first_no
returns c =
    let within : c.args.size + suc c.args.more ≤ c.args.length = omega (arith, c.saturating_sub.ensures) in
    rw (le-leb (c.args.size + suc c.args.more) c.args.length within) refl
