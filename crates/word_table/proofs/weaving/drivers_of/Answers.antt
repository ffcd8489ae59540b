use Rattle.std.proofs.Common.{ℕ, ◌∙◌, ◌∷◌, [], length, ap, sym, subst, arith}
use Rattle.std.proofs.lemmas.List.{length-append}
use Rattle.word_rule.specs.Table.{SeatData}
use Rattle.word_table.specs.Driver.{DriverData}
use Rattle.word_table.specs.Parts.{fabric_view}
use Rattle.word_table.specs.Weaving.{IsLeft, IsFirst, AreFirst}
use Rattle.word_table.proofs.Groups.{first_left, first_more}
use Rattle.word_table.proofs.weaving.drivers_of.Goals as goal

pub loop-group-init : goal.loop-group-init
loop-group-init c = let a = c.args in let j = a.fabric.now.job.now in let e = c.new-drivers.ensures.items in let s = c.requires.seat in (
  ap (λ (s : SeatData). s.table) s,
  subst (λ (s : SeatData). IsLeft j a.fabric.now.groups 0 s.view) (sym s) (first_left j a.fabric.now.groups),
  ap (length {A = DriverData}) e,
  subst (AreFirst (fabric_view a.fabric.now) 0) (sym e) tt,
)

pub loop-group-preserved : goal.loop-group-preserved
loop-group-preserved c = let a = c.args in let n = c.loop-group.invariant in let g = c.group_of.ensures in let e = c.in_ok-push.ensures.items in
    let d = c.in_ok-group_of.field-0 in let l = length-append c.loop-group.drivers.items (d ∷ []) in let w = n.2 in (
      g.seat ∙ n.0,
      g.left,
      ap (length {A = DriverData}) e ∙ omega (arith, l, w),
      subst (AreFirst (fabric_view a.fabric.now) 0) (sym e)
          (first_more (fabric_view a.fabric.now) 0 c.loop-group.drivers.items d n.3
          (subst (λ (i : ℕ). IsFirst (fabric_view a.fabric.now) i d) (omega (arith, w)) c.in_ok-group_of.ensures.driver)),
    )
