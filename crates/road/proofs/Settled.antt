-- Each public function of roads, and of the crates below that do not rest on the law, settles its outcome: one line for each.
-- Assumes nothing.
use Rattle.answer.specs.Settled.{Settles, SettlesResult}
use Rattle.answer.proofs.Settled.{settled, settled_too}
use Rattle.root.proofs.Laws.{root_one}
use Rattle.level.proofs as level
use Rattle.layout.proofs as layout
use Rattle.course.proofs as course
use Rattle.root.proofs as root
use Rattle.screen.proofs as screen

-- ---- levels

energy_settled : SettlesResult level.energy.Reads.Post
energy_settled l a = settled _ _

energy_at_settled : SettlesResult level.energy_at.Reads.Post
energy_at_settled l a = settled _ _

level_settled : SettlesResult level.level.Reads.Post
level_settled l a = settled _ _

lv_settled : SettlesResult level.lv.Reads.Post
lv_settled l a = settled _ _

steps_settled : Settles (λ l a r e. r.now) level.table.steps.Reads.Post
steps_settled l a = settled _ _

step_settled : SettlesResult level.table.step.Reads.Post
step_settled l a = settled _ _

tens_settled : SettlesResult level.table.tens.Reads.Post
tens_settled l a = settled _ _

-- ---- layouts

number_settled : SettlesResult layout.number.Reads.Post
number_settled l a = settled _ _

field_settled : SettlesResult layout.field.Reads.Post
field_settled l a = settled _ _

take_fields_settled : Settles (λ l a r e. e.1.1.0.now) layout.take_fields.Reads.Post
take_fields_settled l a = settled _ _

put_number_settled : Settles (λ l a r e. e.0.now) layout.put_number.Reads.Post
put_number_settled l a = settled _ _

put_fields_settled : Settles (λ l a r e. e.0.now) layout.put_fields.Reads.Post
put_fields_settled l a = settled _ _

lay_settled : Settles (λ l a r e. e.1.0.now) layout.lay.Reads.Post
lay_settled l a = settled _ _

first_outside_settled : SettlesResult layout.first_outside.Reads.Post
first_outside_settled l a = settled _ _

-- ---- courses

plan_between_settled : SettlesResult course.plan_between.Reads.Post
plan_between_settled l a = settled _ _

course_length_settled : SettlesResult course.length.Reads.Post
course_length_settled l a = settled _ _

lengths_of_settled : SettlesResult course.lengths_of.Reads.Post
lengths_of_settled l a = settled _ _

whole_settled : SettlesResult course.whole.Reads.Post
whole_settled l a = settled _ _

whole_of_settled : SettlesResult course.whole_of.Reads.Post
whole_of_settled l a = settled _ _

first_half_settled : SettlesResult course.first_half.Reads.Post
first_half_settled l a = settled _ _

second_half_settled : SettlesResult course.second_half.Reads.Post
second_half_settled l a = settled _ _

too_long_settled : SettlesResult course.too_long.Reads.Post
too_long_settled l a = settled _ _

-- ---- noise walls

counts_settled : SettlesResult screen.plan.counts.Reads.Post
counts_settled l a = settled _ _

fraction_settled : SettlesResult screen.plan.fraction.Reads.Post
fraction_settled l a = settled _ _

cut_settled : SettlesResult screen.section.cut.Reads.Post
cut_settled l a = settled _ _

section_screening_settled : SettlesResult screen.section.screening.Reads.Post
section_screening_settled l a = settled _ _

walls_settled : SettlesResult screen.Walls.of.Reads.Post
walls_settled l a = settled _ _

meet_settled : SettlesResult screen.meet.Reads.Post
meet_settled l a = settled_too _ _ _

screening_settled : SettlesResult screen.screening.Reads.Post
screening_settled l a = settled _ _

screened_settled : SettlesResult screen.screened.Reads.Post
screened_settled l a = settled_too _ _ _

-- ---- roots

root_step_settled : SettlesResult root.step.Reads.Post
root_step_settled l a = settled _ _

highest_settled : SettlesResult root.highest.Reads.Post
highest_settled l a = settled _ _

last_line_settled : SettlesResult root.last_line.Reads.Post
last_line_settled l a = settled _ _

roots_settled : SettlesResult root.roots.Reads.Post
roots_settled l a = settled _ _

-- ---- the root, whose contract is two inequalities

root_settled : SettlesResult root.root.Reads.Post
root_settled l a x y p q = root_one a.0 x.0 y.0 (record { at_most = p.0; above = p.1 }) (record { at_most = q.0; above = q.1 })
