-- Dates of the tables stay low.
use Rattle.std.proofs.Common.{◌≡◌, ℕ, zero, suc, ◌+◌, ◌*◌, ◌<◌, ◌≤◌, true, false, Bool, cond, List, [], ◌∷◌, length, Option, Some, None, refl, sym, ap, arith, ◌∙◌}
use Rattle.std.specs.Prelude.{is_none, slice_index_or, slice_set}
use Rattle.schedule.specs.declared.decision.Transfer.{Transfer}
use Rattle.schedule.specs.declared.decision.Decision.{Decision}
use Rattle.schedule.specs.Acts.{copy}
use Rattle.comm_routing.specs.Placing.{ticks_in}
use Rattle.comm_routing.specs.Board.{Board, place_in}
use Rattle.comm_routing.specs.Tables.{after_transfer, after_transfers, after_operation, with_outputs}
use Rattle.comm_routing.specs.Draft.{IsLow, nones}
use Rattle.comm_routing.proofs.Dates.{EndBy, set_below}

set_held : (held : List (Option ℕ)) (k e bound : ℕ) → ((i : ℕ) → ticks_in (slice_index_or held i None) ≤ bound) → e ≤ bound → (i : ℕ)
    → ticks_in (slice_index_or (slice_set held k (Some e)) i None) ≤ bound
set_held [] k e bound h l i = h i
set_held (x ∷ held) zero e bound h l zero = l
set_held (x ∷ held) zero e bound h l (suc i) = h (suc i)
set_held (x ∷ held) (suc k) e bound h l zero = h zero
set_held (x ∷ held) (suc k) e bound h l (suc i) = set_held held k e bound (λ j. h (suc j)) l i

pub low_transfers : (bound : ℕ) (b : Board) (cs : List Transfer) → IsLow bound b → EndBy bound cs → IsLow bound (after_transfers b cs)
low_transfers bound b [] h e = h
low_transfers bound b (c ∷ cs) h e =
    low_transfers bound (after_transfer b c) cs (record {
      held = set_held b.held (place_in b (copy c.to c.source)) c.end bound h.held e.0;
      ends = set_below b.ends c.medium c.end bound h.ends e.0;
      busy = h.busy;
      ended = h.ended;
    }) e.1

low_outputs : (bound operators o output : ℕ) (ns : List ℕ) (date : ℕ) (held : List (Option ℕ)) → ((i : ℕ) → ticks_in (slice_index_or held i None) ≤ bound) → date ≤ bound
    → (i : ℕ) → ticks_in (slice_index_or (with_outputs operators o output ns date held) i None) ≤ bound
low_outputs bound operators o output [] date held h l i = h i
low_outputs bound operators o output (n ∷ ns) date held h l i =
    low_outputs bound operators o (output + 1) ns date (slice_set held (output * operators + o) (Some date)) (set_held held (output * operators + o) date bound h l) l i

pub low_operation : (bound : ℕ) (b : Board) (outs : List ℕ) (d : Decision) → IsLow bound b → d.end ≤ bound → IsLow bound (after_operation b outs d)
low_operation bound b outs d h l = record {
  held = low_outputs bound b.operators d.operator (slice_index_or b.first d.op 0) outs d.end b.held h.held l;
  ends = h.ends;
  busy = set_below b.busy d.operator d.end bound h.busy l;
  ended = set_below b.ended d.op d.end bound h.ended l;
}

pub low_more : (a b : ℕ) (board : Board) → a ≤ b → IsLow a board → IsLow b board
low_more a b board l h = record {
  held = λ i. (let z = h.held i in omega arith);
  ends = λ m. (let z = h.ends m in omega arith);
  busy = λ o. (let z = h.busy o in omega arith);
  ended = λ v. (let z = h.ended v in omega arith);
}

-- placing one that was free leaves one free place less
pub one_none_less : (os : List (Option ℕ)) (k x : ℕ) → k < length os → slice_index_or os k None ≡ None → 1 + nones (slice_set os k (Some x)) ≡ nones os
one_none_less [] k x l e = absurd (omega arith)
one_none_less (o ∷ os) zero x l e = (λ i. cond (is_none (sym e i)) (1 + nones os) (nones os))
one_none_less (o ∷ os) (suc k) x l e = by (is_none o) (one_none_less os k x (omega arith) e)
  where
    by : (b : Bool) → 1 + nones (slice_set os k (Some x)) ≡ nones os → 1 + cond b (1 + nones (slice_set os k (Some x))) (nones (slice_set os k (Some x))) ≡ cond b (1 + nones os) (nones os)
    by true h = ap (λ (n : ℕ). 1 + n) h
    by false h = h

pub all_none : (os : List (Option ℕ)) → ((i : ℕ) → slice_index_or os i None ≡ None) → nones os ≡ length os
all_none [] h = refl
all_none (o ∷ os) h = (λ i. cond (is_none (h 0 i)) (1 + nones os) (nones os)) ∙ (let r = all_none os (λ i. h (suc i)) in omega arith)

pub same_places : (b : Board) (cs : List Transfer) → (after_transfers b cs).places ≡ b.places
same_places b [] = refl
same_places b (c ∷ cs) = same_places (after_transfer b c) cs
