use Rattle.std.proofs.Common.{◌≡◌, ℕ, ◌+◌, ◌<◌, ◌≤◌, List, ◌++◌, length, get_or, drop, Option, ap, sym, ◌∙◌, append_assoc}
use Rattle.std.proofs.lemmas.List.{at_drop_all, append-nil}
use Rattle.std.specs.Prelude.{option_to_list}
use Rattle.std.specs.List.{flat_map}
use Rattle.algo_check.proofs.Fresh.{from_here}
use Rattle.std.proofs.lemmas.Result.{IfOk-weaker}
use Rattle.algo_laws.specs.declared.Give.{Give}
use Rattle.algo_laws.specs.declared.FrontierLine.{FrontierLine}
use Rattle.algo_laws.specs.Resolved.{give_by}
use Rattle.algo_laws.specs.declared.Ports.{Ports}
use Rattle.algo_resolve.proofs.frontier.gives.Goals as goal
use Rattle.algo_resolve.proofs.frontier.gives.Goals.{in-Some+in_ok-push, in_default}

module _ (inner outer : Ports) where
  abbrev all_gives : List FrontierLine → List Give
  all_gives ls = flat_map (λ l. give_by inner outer l.frontier) ls

  -- one line more
  next_line : (ls : List FrontierLine) (i : ℕ) (l : FrontierLine) (gs hs : List Give) (o : Option Give)
      → i < length ls → l ≡ get_or ls i l → option_to_list o ≡ give_by inner outer l.frontier → hs ≡ gs ++ option_to_list o
      → hs ++ all_gives (drop (i + 1) ls) ≡ gs ++ all_gives (drop i ls)
  next_line ls i l gs hs o low is gives more =
      ap (λ (xs : List Give). xs ++ all_gives (drop (i + 1) ls)) (more ∙ ap (λ (xs : List Give). gs ++ xs) gives)
      ∙ append_assoc gs (give_by inner outer l.frontier) (all_gives (drop (i + 1) ls))
      ∙ ap (λ (ks : List FrontierLine). gs ++ all_gives ks) (sym (from_here ls i l low is))

  -- and none
  no_line : (ls : List FrontierLine) (i : ℕ) (gs hs : List Give) → length ls ≤ i → hs ≡ gs → gs ++ all_gives (drop i ls) ≡ all_gives ls → hs ≡ all_gives ls
  no_line ls i gs hs past is all = is ∙ sym (append-nil gs) ∙ ap (λ (xs : List Give). gs ++ xs) (sym (at_drop_all all_gives ls i past)) ∙ all

pub loop-line-preserved : goal.loop-line-preserved
loop-line-preserved c = λ outer.
    elim c.match-branch-2.branch [
      | in-Some+in_ok-push w ↦
          next_line c.args.inner.now outer c.args.lines.now _ _ _ _ _ c.loop-line-test.true c.line-item.is (c.in_ok-give.ensures outer)
          (ap (λ v. v.items) w.gives-is ∙ w.in_ok-push.ensures.items ∙ ap (λ o. c.loop-line.gives.items ++ option_to_list o) (sym w.in-Some.is))
          ∙ c.loop-line.invariant outer
      | in_default w ↦
          next_line c.args.inner.now outer c.args.lines.now _ _ _ _ _ c.loop-line-test.true c.line-item.is (c.in_ok-give.ensures outer)
          (ap (λ v. v.items) w.gives-is ∙ sym (append-nil c.loop-line.gives.items) ∙ ap (λ o. c.loop-line.gives.items ++ option_to_list o) (sym w.in_default.is))
          ∙ c.loop-line.invariant outer
    ]

pub returns : goal.returns
returns c =
    IfOk-weaker c.new.result (λ gs. gs ≡ c.loop-line.gives.items) _
    (λ gs same outer. no_line c.args.inner.now outer c.args.lines.now _ _ _ c.loop-line-test.false same (c.loop-line.invariant outer))
    c.new.ensures
