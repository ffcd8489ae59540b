-- The totals of a pair of any depth.
use Rattle.std.proofs.Common.{◌≡◌, ℕ, suc, ◌+◌, ◌-◌, ◌*◌, ◌<◌, ◌≤◌, ◌⊎◌, Bool, length, Some, refl, ap, subst, inl, inr, ⊎_elim, arith, ◌∙◌}
use Rattle.std.specs.Prelude.{slice_get}
use Rattle.std.proofs.lemmas.Bool.{cases_lt}
use Rattle.std.proofs.lemmas.Option.{slice_get_within}
use Rattle.std.proofs.Math.Nat.{mul-le-mul_right}
use native.Mathlib.Nat.{suc-mul}
use Rattle.interleavings.specs.Precedence.{Event, event, IsConsistent}
use Rattle.interleavings.specs.Sites.{step_at, passes, number_of}
use Rattle.interleavings.proofs.Counting.{nth_made}
use Rattle.interleavings.proofs.Between.{later_le, passes_upto, passes_from}
use Rattle.interleavings.specs.System.{System, Micro, take, see, is_take, is_signal, stores, total}
use Rattle.interleavings.specs.Owners.{Owner, IsOwned, nth_of}
use Rattle.interleavings.specs.Media.{Half, needed, precedence}
use Rattle.interleavings.specs.Pairs.{Pair, IsSemaphore, IsPair, late}
use Rattle.interleavings.proofs.Totals.{total_nth, total_owned}
use Rattle.interleavings.proofs.Media.{step_there, nth_late}

module _ {P : Type 0} (w : System P) where
  -- at its place or before in reaction j a test was passed j times
  pub passes_at : (p : Micro → Bool) (s a b j : ℕ) → IsOwned w p (late s a) → b ≤ a → passes p (w.codes s) (number_of (w.codes s) j b) ≡ j
  passes_at p s a b j o h = by (cases_lt (passes p (w.codes s) (number_of (w.codes s) j b)) j)
    where
      up : passes p (w.codes s) (number_of (w.codes s) j b) ≤ j
      up = let z = passes_upto p (w.codes s) (record { first = 0; early = 0; place = a }) o.site j b h in omega arith

      by : (passes p (w.codes s) (number_of (w.codes s) j b) < j) ⊎ (j ≤ passes p (w.codes s) (number_of (w.codes s) j b)) → passes p (w.codes s) (number_of (w.codes s) j b) ≡ j
      by (inl l) = let i : ℕ = passes p (w.codes s) (number_of (w.codes s) j b) in
          let m : suc i * length (w.codes s).turn ≤ j * length (w.codes s).turn = mul-le-mul_right (length (w.codes s).turn) l in
          let n = nth_late (w.codes s) a i in let q = o.site.within in
          let z = (nth_made p (w.codes s) (record { first = 0; early = 0; place = a }) o.site (number_of (w.codes s) j b) i).1
          (omega (arith, suc-mul i (length (w.codes s).turn))) in absurd (omega arith)
      by (inr l) = omega (arith, up)

module _ {P : Type 0} (w : System P) (signaller : ℕ → Owner) (half : ℕ → ℕ → Half) (rank : Event → ℕ) (c : ℕ → ℕ) (k : IsConsistent (precedence w signaller half rank) c) where
  module _ (x t asks takes : ℕ) (o : IsSemaphore w signaller x t asks takes) where
    -- what asks for x in reaction j needs signal j
    needs_of : (j : ℕ) → needed w signaller half (event t (number_of (w.codes t) j asks)) (step_at (w.codes t) (number_of (w.codes t) j asks)) ≡ Some (nth_of w (signaller x) j)
    needs_of j = ⊎_elim (λ q. by (take x) q refl) (λ q. by (see x) q refl) o.asked
      where
        by : (m : Micro) → slice_get (w.codes t).turn asks ≡ Some m
            → needed w signaller half (event t (number_of (w.codes t) j asks)) (Some m)
            ≡ Some (nth_of w (signaller x) (passes (is_take x) (w.codes t) (number_of (w.codes t) j asks)))
            → needed w signaller half (event t (number_of (w.codes t) j asks)) (step_at (w.codes t) (number_of (w.codes t) j asks)) ≡ Some (nth_of w (signaller x) j)
        by m q n = let l : asks < length (w.codes t).turn = slice_get_within (w.codes t).turn asks m q in
            ap (needed w signaller half (event t (number_of (w.codes t) j asks))) (step_there (w.codes t) j asks l ∙ q) ∙ n
            ∙ ap (λ (i : ℕ). Some (nth_of w (signaller x) i)) (passes_at w (is_take x) t takes asks j o.taken o.before)

    pub takes_le : total w (is_take x) c ≤ total w (is_signal x) c
    takes_le = ⊎_elim (λ l. absurd (more l)) (λ l. l) (cases_lt (total w (is_signal x) c) (total w (is_take x) c))
      where
        more : total w (is_signal x) c < total w (is_take x) c → ⊥
        more l = let j : ℕ = total w (is_signal x) c in
            let made = (total_nth w (is_take x) (late t takes) o.taken c j).0 l in
            let n = nth_late (w.codes t) takes j in let b = o.before in
            let g : number_of (w.codes t) j asks < c t = omega arith in
            let f = k.made (event t (number_of (w.codes t) j asks)) (nth_of w (signaller x) j) g (needs_of j) in
            let z = (total_nth w (is_signal x) (signaller x) o.signalled c j).1 f in omega arith

    -- what was seen is still there when it is taken
    pub seen : (j : ℕ) → asks < takes → c t ≡ number_of (w.codes t) j takes → 1 ≤ total w (is_signal x) c - total w (is_take x) c
    seen j l at =
        let g : number_of (w.codes t) j asks < c t = omega arith in
        let f = k.made (event t (number_of (w.codes t) j asks)) (nth_of w (signaller x) j) g (needs_of j) in
        let z = (total_nth w (is_signal x) (signaller x) o.signalled c j).1 f in
        let a = total_owned w (is_take x) (late t takes) o.taken c in
        let b = ap (passes (is_take x) (w.codes t)) at in
        let e = passes_at w (is_take x) t takes takes j o.taken (omega arith) in omega arith

  module _ (q : Pair) (o : IsPair w signaller q) where
    pub empties : IsOwned w (is_signal q.empty) (record { sequence = q.reader; site = record { first = q.front; early = q.depth; place = q.signal_empty } })
    empties = subst (IsOwned w (is_signal q.empty)) o.empty_by o.empty_is.signalled

    pub fulls : IsOwned w (is_signal q.full) (late q.writer q.signal_full)
    fulls = subst (IsOwned w (is_signal q.full)) o.full_by o.full_is.signalled

    pub writer_order : total w (is_signal q.full) c ≤ total w (is_take q.empty) c
    writer_order = let a = total_owned w (is_take q.empty) (late q.writer q.take_empty) o.empty_is.taken c in let b = total_owned w (is_signal q.full) (late q.writer q.signal_full) fulls c in
        let e = later_le (is_take q.empty) (is_signal q.full) (w.codes q.writer) _ _ o.empty_is.taken.site fulls.site refl (let i = o.in_writer in omega arith) (c q.writer) in omega arith

    pub reader_order : total w (is_signal q.empty) c ≤ total w (is_take q.full) c + q.depth
    reader_order = let a = total_owned w (is_take q.full) (late q.reader q.take_full) o.full_is.taken c in let b = total_owned w (is_signal q.empty) _ empties c in
        let e = later_le (is_take q.full) (is_signal q.empty) (w.codes q.reader) _ _ o.full_is.taken.site empties.site refl (let i = o.in_reader in omega arith) (c q.reader) in omega arith

    -- the two semaphores of a pair hold together at most as many as its buffer has places
    pub at_most : (total w (is_signal q.empty) c ≤ total w (is_take q.empty) c + q.depth) × (total w (is_signal q.full) c ≤ total w (is_take q.full) c + q.depth)
    at_most = let a = writer_order in let b = reader_order in let e = takes_le q.empty q.writer q.ask_empty q.take_empty o.empty_is in
        let f = takes_le q.full q.reader q.ask_full q.take_full o.full_is in (omega arith, omega arith)

    -- A load between the reader's take and its signal, of an element that is stored between the writer's take and its signal: its round was stored, and fewer later ones than the buffer has places.
    pub buffer_load : (y st l j : ℕ) → IsOwned w (stores y) (late q.writer st) → q.take_empty < st → st < q.signal_full → q.take_full < l
        → l < q.signal_empty → c q.reader ≡ number_of (w.codes q.reader) j l
        → (j < total w (stores y) c) × (total w (stores y) c ≤ j + q.depth)
    buffer_load y st l j v h1 h2 h3 h4 at =
        let te = total_owned w (is_take q.empty) (late q.writer q.take_empty) o.empty_is.taken c in let se = total_owned w (is_signal q.empty) _ empties c in
        let tf = total_owned w (is_take q.full) (late q.reader q.take_full) o.full_is.taken c in let sf = total_owned w (is_signal q.full) (late q.writer q.signal_full) fulls c in
        let sv = total_owned w (stores y) (late q.writer st) v c in
        let fe = ap (passes (is_signal q.empty) (w.codes q.reader)) at in let ff = ap (passes (is_take q.full) (w.codes q.reader)) at in
        let lo = passes_from (is_take q.full) (w.codes q.reader) _ o.full_is.taken.site j l h3 in
        let hi = passes_upto (is_signal q.empty) (w.codes q.reader) _ empties.site j l (omega arith) in
        let o1 = later_le (is_take q.empty) (stores y) (w.codes q.writer) _ _ o.empty_is.taken.site v.site refl (omega arith) (c q.writer) in
        let o2 = later_le (stores y) (is_signal q.full) (w.codes q.writer) _ _ v.site fulls.site refl (omega arith) (c q.writer) in
        let x1 = takes_le q.empty q.writer q.ask_empty q.take_empty o.empty_is in let x2 = takes_le q.full q.reader q.ask_full q.take_full o.full_is in
        (omega arith, omega arith)
