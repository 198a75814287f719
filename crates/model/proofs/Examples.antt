-- That the rows of examples hold: the checker computes every one. Below them the statements of demand 3 at numbers, and the tests of the
-- two tables, which the crate `laws` makes rules. (In proofs/, so that an edit of a definition is refused by them.)
-- Assumes nothing.
use Rattle.std.specs.Prelude.{◌≡◌, refl, true}
use mathlib.Core.List.{[], flat_map}
use Rattle.model.specs.Tests.{below, every, keep, member, count_set, all_set, occurrences, zeros}
use Rattle.model.specs.Questions.{accepted, refused, first_no}
use Rattle.model.specs.Plan
use Rattle.model.specs.Plan.{Growth, by_factor, by_tenths, Plan, plan_of, plan_answer, form_field, growth_field, utilization_field}
use Rattle.model.specs.Plan.{quantum_length_field, task_count, count_field, first_field, second_field, duration_field}
use Rattle.model.specs.Machine
use Rattle.model.specs.Machine.{State, Note, no_offer, offered, with_note, Call, grants, ticks, offers, opens, withdraws, call_answer}
use Rattle.model.specs.Machine.{step, fresh, status, no_quantum_open, ticks_of, stolen_count, efficient, next_wish, wish_at}
use Rattle.model.specs.Machine.{top_desires, whole_parts, desire_at, most_workers}
use Rattle.std.proofs.Common.{arith}
use Rattle.model.specs.Statements.{Limit, OneStepLower}
use Rattle.model.specs.History
use Rattle.model.specs.History.{ClosedQuantum, CurrentQuantum, none, begun_with, run, work_order, ticks_done}
use Rattle.model.specs.WholeTicks
use Rattle.model.specs.WholeTicks.{all_counted, accepted_calls, worker_ticks, after_workers}
use Rattle.model.specs.Lines
use Rattle.model.specs.Lines.{deques_in_use, tasks_standing, largest_granted, largest_count}
use Rattle.model.specs.Log
use Rattle.model.specs.Log.{run_log, run_calls, log_answer, entry_bytes, append_answer, grant_sayable, tick_sayable, appended}
use Rattle.model.specs.Seeds
use Rattle.model.specs.Seeds.{next_seed, draws, seed_after, Seeded, seeded_answer, DayCall, grants_plainly, ticks_by_seed, run_day}
use Rattle.model.specs.Seeds.{day_log}
use Rattle.model.specs.Label
use Rattle.model.specs.Label.{label, label_answer, bytes_of}
use Rattle.model.specs.Counters
use Rattle.model.specs.Counters.{decimal, counters, counters_line, buffer_after, counters_answer}
use Rattle.model.specs.Digits
use Rattle.model.specs.Digits.{digit_count, line_size}
use Rattle.model.specs.Program
use Rattle.model.specs.Program.{program}
use Rattle.model.specs.Examples.{same, row_holds, failing, plan_a, task, lasting, form_bytes, gentle_bytes, plan_bytes, diamond, one_task}
use Rattle.model.specs.Examples.{seven_tasks, seven, easy_seven, wide_seven, ten, thirteen, four_lines, link, chain, refusal, after_calls}
use Rattle.model.specs.Examples.{quantum_kept, shown_from, shown, answered, listed, placed, labelled, desire_after, document_rows}
use Rattle.model.specs.Examples.{growth_number, header_fields, fields_of, task_fields, fresh_with, call_number, grant_number}
use Rattle.model.specs.Examples.{quantum_shown, current_shown, history_shown, shown_twice, half_of_five, three_thieves, two_at_work}
use Rattle.model.specs.Examples.{two_withdrawn, four_at_work, two_grants, three_at_work, then_three, counted, sums, statuses_from}
use Rattle.model.specs.Examples.{statuses, seeded, day_shown, day_logged, day_replayed, seeded_number, three_by_seed, finished_by_seed}
use Rattle.model.specs.Examples.{held_by_seed, append_number, note_shown, state_kept, kept_from, offer_kept, example_1_offered}
use Rattle.model.specs.Examples.{one_in_vain, lines_after, lines_inside, plan_rows, lasting_diamond, one_lasting, after_first, one_works}
use Rattle.model.specs.Examples.{one_logged, ticks_left, form_rows, gentle_diamond, gentle_next, last_powers, from_the_top, gentle_chain}
use Rattle.model.specs.Examples.{single_rounds, powers_shown, gentle_rows, lasting_rows, grant_rows, offer_rows, withdrawal_rows}
use Rattle.model.specs.Examples.{line_rows, tick_rows, steal_rows, last_tick_rows, quantum_rows, log_rows, seed_rows, program_rows}
use Rattle.model.specs.Examples.{our_rows, rows, round, powers, top_desire_right, top_desires_right, whole_part_right, row_right}
use Rattle.model.specs.Examples.{rows_right}

-- every row holds
unfoldable pub table : failing 0 rows ≡ []
unfolding same row_holds failing task lasting form_bytes gentle_bytes plan_bytes diamond one_task seven easy_seven wide_seven ten thirteen
    four_lines link chain refusal after_calls quantum_kept shown_from shown answered listed placed labelled desire_after document_rows
    seven_tasks growth_number header_fields fields_of task_fields fresh_with call_number grant_number note_shown state_kept kept_from
    offer_kept example_1_offered quantum_shown current_shown history_shown shown_twice half_of_five three_thieves two_at_work two_withdrawn
    four_at_work two_grants three_at_work then_three counted sums statuses_from statuses one_in_vain lines_after lines_inside
    lasting_diamond one_lasting after_first one_works one_logged ticks_left gentle_diamond gentle_next last_powers from_the_top gentle_chain
    single_rounds powers_shown seeded day_shown day_logged day_replayed seeded_number three_by_seed finished_by_seed held_by_seed
    append_number plan_rows form_rows gentle_rows lasting_rows grant_rows offer_rows withdrawal_rows line_rows tick_rows steal_rows
    last_tick_rows quantum_rows log_rows seed_rows program_rows our_rows rows below every keep member count_set all_set occurrences zeros
    first_no flat_map Plan.predecessors Plan.number Plan.header Plan.forms Plan.is_form Plan.form_with Plan.form_of Plan.growth_field
    Plan.utilization_field Plan.quantum_length_field Plan.task_bits Plan.duration_field Plan.successor_fields Plan.plan_of Plan.fields_ok
    Plan.two_differ Plan.targets_ok Plan.task_questions Plan.all_preceded Plan.one_exit Plan.header_questions Plan.graph_questions
    Plan.plan_questions Plan.plan_answer Machine.finished Machine.fresh Machine.grant_questions Machine.kept_deques Machine.withdrawn_deques
    Machine.first_task_placed Machine.grant Machine.withdraw_questions Machine.open_questions Machine.open_offer Machine.tick_questions
    Machine.cycle_of Machine.ready Machine.released Machine.stolen_count Machine.left_by_steal Machine.taken_by_steal Machine.worked_deque
    Machine.work_cycle Machine.mug_cycle Machine.successful_steal Machine.failed_steal Machine.cycle Machine.turn_of Machine.turn
    Machine.cycles Machine.cycles_made Machine.ticked Machine.efficient Machine.satisfied Machine.next_wish Machine.closes Machine.closed
    Machine.tick Machine.top_desires Machine.whole_parts Machine.call_answer Machine.step Machine.status History.beginning
    History.history_grant History.history_tick History.history_open History.history_step History.run_from History.run History.tasks_in
    WholeTicks.accepted_calls WholeTicks.granted_ticks Lines.busy Lines.largest_closed Lines.largest_granted Lines.largest_count
    Log.entries_up_to Log.entries Log.entry_bytes Log.written Log.append_answer Log.run_calls Log.run_log Log.log_answer Seeds.next_seed
    Seeds.drawn_choice Seeds.draws Seeds.seed_after Seeds.drawn Seeds.seeded_questions Seeds.seeded_answer Seeds.tick_seeded Seeds.day_step
    Seeds.run_day Seeds.plain_calls Label.lines_from Label.lines Label.label_answer Label.label Counters.decimal_up_to Counters.decimal
    Counters.spaced Counters.counters Counters.counters_line Counters.counters_answer Counters.buffer_after Digits.first_above
    Digits.digit_count Program.plan_length Program.plan_part Program.log_part Program.input_questions Program.refused_line
    Program.log_output Program.program
table = refl

-- examples 3 and 4 by themselves, for a program that meets them from contracts alone: Plan A is accepted, a first grant of 2 is refused by
-- 14, and the status is then 0
pub plan_a_begins : (plan_answer plan_a ≡ accepted) × (call_answer (grants 2) (fresh (plan_of plan_a)) ≡ refused 14)
    × (status (fresh (plan_of plan_a)) ≡ 0)
unfolding table
plan_a_begins = (refl, refl, refl)

-- ---- the statements of demand 3 at numbers: what they allow at most, and what is more

-- 100 × (1 + 2) is 300; of 12 tenths 100 × (10 + 2 × 12) is 3,400
pub limit_of_2 : Limit (by_factor 2) 10 10 3 1 × (Limit (by_factor 2) 43 7 1 1 → ⊥)
limit_of_2 = (omega arith, λ above. omega arith)

pub limit_of_12_tenths : Limit (by_tenths 12) 17 4 5 1 × (Limit (by_tenths 12) 31 11 1 1 → ⊥)
limit_of_12_tenths = (omega arith, λ above. omega arith)

-- "whose wanted count times R is its own"; "one power lower", where several powers have one whole part
pub lower_of_2 : OneStepLower (by_factor 2) (round 0 4) (round 0 8) × (OneStepLower (by_factor 2) (round 0 4) (round 1 6) → ⊥)
lower_of_2 = (refl, λ other. omega arith)

pub lower_of_12_tenths : OneStepLower (by_tenths 12) (round 3 1) (round 4 2) × (OneStepLower (by_tenths 12) (round 4 2) (round 5 2))
    × (OneStepLower (by_tenths 12) (round 2 1) (round 4 2) → ⊥)
lower_of_12_tenths = (refl, refl, λ other. omega arith)

-- ---- the table of the six top desires, and the nine rows of whole parts

pub top_desires_rule : top_desires_right 2 top_desires ≡ true
unfolding powers top_desire_right top_desires_right below member top_desires
top_desires_rule = refl

pub whole_parts_rule : rows_right 12 whole_parts ≡ true
unfolding whole_part_right row_right rows_right whole_parts
whole_parts_rule = refl
