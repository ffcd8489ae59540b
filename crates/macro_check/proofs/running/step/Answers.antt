use Rattle.std.proofs.Common.{ℕ, ◌<◌, List, [], ◌∷◌, ◌++◌, length, refl, sym, ap, inr, arith, ◌∙◌}
use Rattle.std.specs.Prelude.{slice_get, slice_index, Option, Some}
use Rattle.std.proofs.lemmas.Option.{slice_get_read}
use Rattle.sequence_build_laws.specs.declared.Instr.{Instr}
use Rattle.macro_check.specs.Awaiting.{woken, woken_at}
use Rattle.macro_check.proofs.Results.{on_ok}
use Rattle.macro_check.proofs.running.step.Goals as goal

pub push_woken-requires-clause-pairs : goal.push_woken-requires-clause-pairs
push_woken-requires-clause-pairs c q e =
    let t = c.turn_of.ensures in
    let low : slice_index c.args.done.now c.args.sequence < length c.turn_of.result.now = (let n = ap length t in let l = c.requires.there in omega arith) in
    let there = slice_get_read c.turn_of.result.now (length c.turn_of.result.now) (slice_index c.args.done.now c.args.sequence) c.index-turn_of-at.result refl low c.index-turn_of-at.is in
    c.requires.run.named c.args.sequence (slice_index c.args.done.now c.args.sequence) q
    (inr (ap (λ (xs : List Instr). slice_get xs (slice_index c.args.done.now c.args.sequence)) (sym t) ∙ there ∙ ap (λ (x : Instr). Some x) e))

pub returns : goal.returns
returns c =
    let t = c.turn_of.ensures in
    let low : slice_index c.args.done.now c.args.sequence < length c.turn_of.result.now = (let n = ap length t in let l = c.requires.there in omega arith) in
    let there = slice_get_read c.turn_of.result.now (length c.turn_of.result.now) (slice_index c.args.done.now c.args.sequence) c.index-turn_of-at.result refl low c.index-turn_of-at.is in
    let here = ap (λ (xs : List Instr). slice_get xs (slice_index c.args.done.now c.args.sequence)) (sym t) ∙ there in
    on_ok c.push_woken.result _ _ (λ h. record {
      order_is = c.in_ok-push.ensures.items;
      done_is = refl;
      looks_are = h ∙ ap (λ (xs : List ℕ). xs ++ woken c.args.program.now c.args.sequence c.index-turn_of-at.result) c.in_ok-push-2.ensures.items
          ∙ ap (λ (o : Option Instr). c.args.looks.now.items ++ c.args.sequence ∷ [] ++ woken_at c.args.program.now c.args.sequence o) (sym here);
    }) c.push_woken.ensures
