use Rattle.std.proofs.Common.{◌+◌, ◌∙◌, ap, subst, sym}
use Rattle.word_rule.specs.Table.{SeatData}
use Rattle.word_table.specs.Weaving.{DrivesGroup, IsLeft}
use Rattle.word_table.proofs.Groups.{right_group, left_rest}
use Rattle.word_table.proofs.weaving.group_of.Goals as goal

pub driver_of-requires-clause-view : goal.driver_of-requires-clause-view
driver_of-requires-clause-view c = let a = c.args in let w = a.fabric.now in
    subst (λ (s : SeatData). DrivesGroup w.job.now w.groups a.group s.view) (sym c.split-mine.ensures.right) (right_group w.job.now w.groups a.group a.seat.now.view c.requires.left)

pub returns-clause-driver : goal.returns-clause-driver
returns-clause-driver c = let a = c.args in let w = a.fabric.now in let i = c.in_ok-parts.ensures in record {
  fabric = (λ t. record { table = (ap (λ (s : SeatData). s.table) i.seated ∙ ap (λ (s : SeatData). s.table) c.split-mine.ensures.right ∙ c.requires.seat) t; job = i.job t; groups = i.groups t });
  group = i.group;
  new = i.new;
}

pub returns-clause-left : goal.returns-clause-left
returns-clause-left c = let a = c.args in let w = a.fabric.now in
    subst (λ (s : SeatData). IsLeft w.job.now w.groups (a.group + 1) s.view) (sym c.split-mine.ensures.left) (left_rest w.job.now w.groups a.group a.seat.now.view c.requires.left)

pub returns-in_err-parts-clause-left : goal.returns-in_err-parts-clause-left
returns-in_err-parts-clause-left c = let a = c.args in let w = a.fabric.now in
    subst (λ (s : SeatData). IsLeft w.job.now w.groups (a.group + 1) s.view) (sym c.split-mine.ensures.left) (left_rest w.job.now w.groups a.group a.seat.now.view c.requires.left)

pub returns-in_err-places-clause-left : goal.returns-in_err-places-clause-left
returns-in_err-places-clause-left c = let a = c.args in let w = a.fabric.now in
    subst (λ (s : SeatData). IsLeft w.job.now w.groups (a.group + 1) s.view) (sym c.split-mine.ensures.left) (left_rest w.job.now w.groups a.group a.seat.now.view c.requires.left)
