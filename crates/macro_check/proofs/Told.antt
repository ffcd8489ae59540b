-- What the tables tell of what is awaited.
use Rattle.std.proofs.Common.{◌≡◌, ℕ, zero, suc, ◌<◌, true, List, length, map, take, Option, Some, None, refl, sym, ap, arith, ◌∙◌}
use Rattle.std.specs.Prelude.{slice_get}
use Rattle.std.specs.List.{range_with_len}
use Rattle.std.proofs.lemmas.List.{take_all}
use Rattle.std.proofs.lemmas.List.FromFn.{get_or-map-range_with_len, length-map-range_with_len}
use Rattle.std.proofs.lemmas.Option.{slice_get-get_or, slice_get_within}
use Rattle.program_tables.specs.declared.mark_table.Mark.{Mark}
use Rattle.program_walks.proofs.Readings.{same_numbers}
use Rattle.program_tables.specs.declared.crossings.Crossing.{Crossing}
use Rattle.program_tables.specs.declared.roles.Role.TheVariants.{FullSignalled, FullTaken}
use Rattle.program_tables.specs.Crossings.{crossing, crossings, crossings_on}
use Rattle.program_tables.specs.Marks.{marks_of}
use Rattle.program_tables.proofs.Lone.{FirstIs, only_first}
use Rattle.sequence_build_laws.specs.declared.Instr.{Instr}
use Rattle.sequence_build_laws.specs.declared.Instr.TheVariants.{Suc1, Pre1, Send, Recv, Sync}
use Rattle.sequence_build_laws.specs.declared.Program.{Program}
use Rattle.sequence_build_laws.specs.Instructions.{communications, is_communication, medium, turn}
use Rattle.sequence_build_laws.specs.MicroSteps.{transfers}
use Rattle.sequence_build_laws.specs.Places.{pair, writing}
use Rattle.sequence_build_laws.specs.WellFormed.{Stands}
use Rattle.sequence_build_laws.proofs.Passing.{full_signalled, full_taken}
use Rattle.sequence_build_laws.proofs.Lists.{counts_tally, tally, tally_grows}
use Rattle.check_laws.specs.Items.{AreGuarded, AreTransferred}
use Rattle.check_laws.specs.Run.{awaited, on_medium, receive_before, receive_of, send_of, signal_of}
use Rattle.program_walks.proofs.Guarded.{of_only}
use Rattle.macro_check.specs.Tabled.{crossing_at, crossing_before, in_row}
use Rattle.macro_check.specs.Awaiting.{received_at, sent_at, stand_or}

pub made_there : {X : Type 0} (f : ℕ → X) (n i : ℕ) → i < n → slice_get (map f (range_with_len 0 n)) i ≡ Some (f i)
made_there f n i l =
    let many = length-map-range_with_len f 0 n in
    slice_get-get_or (map f (range_with_len 0 n)) i (f i) (omega arith) ∙ ap (λ x. Some x) (get_or-map-range_with_len f 0 n i i (f i) l (omega arith))

module _ (p : Program) (media : ℕ) where
  pub crossing_there : (m t : ℕ) → m < media → t < transfers p m → crossing_at (crossings p media) (Some m) t ≡ Some (crossing p m t)
  crossing_there m t l k = ap (λ (o : Option (List Crossing)). in_row o t) (made_there (crossings_on p) media m l) ∙ made_there (crossing p m) (transfers p m) t k

  -- the transfer of which a communication is a part
  pub record PartOf (s a : ℕ) : Type 0 where
    pub on : ℕ
    pub at : medium p s ≡ Some on
    pub low : on < media
    pub inside : communications p s a < transfers p on

  pub part_of : AreTransferred p media → (s a : ℕ) (x : Instr) → Stands p s a x → is_communication x ≡ true → PartOf s a
  part_of r s a x h e =
      let m = r.communicators s a x h e in
      let count = r.counts s m.0 m.1 in
      let rises = tally_grows is_communication (turn p s) a (length (turn p s)) x h e (slice_get_within (turn p s) a x h) in
      let whole = ap (tally is_communication) (take_all (length (turn p s)) (turn p s) (omega arith)) in
      let first = counts_tally is_communication (take a (turn p s)) in
      let second = counts_tally is_communication (turn p s) in
      record { on = m.0; at = m.1; low = r.on_media s m.0 m.1; inside = omega arith }

  module _ (r : AreTransferred p media) (s a : ℕ) where
    pub receive_told : (b o : ℕ) → Stands p s a (Recv b o) → sent_at (crossing_at (crossings p media) (medium p s) (communications p s a)) ≡ stand_or (awaited p s a (Recv b o))
    receive_told b o h =
        let c = part_of r s a (Recv b o) h refl in
        ap (λ (m : Option ℕ). sent_at (crossing_at (crossings p media) m (communications p s a))) c.at
        ∙ ap sent_at (crossing_there c.on (communications p s a) c.low c.inside)
        ∙ ap (λ (m : Option ℕ). stand_or (on_medium m (λ m. send_of p m (communications p s a)))) (sym c.at)

    pub wait_told : (o q : ℕ) → Stands p s a (Sync o q) → received_at (crossing_at (crossings p media) (medium p s) (communications p s a)) ≡ stand_or (awaited p s a (Sync o q))
    wait_told o q h =
        let c = part_of r s a (Sync o q) h refl in
        ap (λ (m : Option ℕ). received_at (crossing_at (crossings p media) m (communications p s a))) c.at
        ∙ ap received_at (crossing_there c.on (communications p s a) c.low c.inside)
        ∙ ap (λ (m : Option ℕ). stand_or (on_medium m (λ m. receive_of p m (communications p s a)))) (sym c.at)

    pub send_told : (b o : ℕ) → Stands p s a (Send b o) → received_at (crossing_before (crossings p media) (medium p s) (communications p s a)) ≡ stand_or (awaited p s a (Send b o))
    send_told b o h =
        let c = part_of r s a (Send b o) h refl in
        ap (λ (m : Option ℕ). received_at (crossing_before (crossings p media) m (communications p s a))) c.at
        ∙ by c.on c.low (communications p s a) c.inside
        ∙ ap (λ (m : Option ℕ). stand_or (on_medium m (λ m. receive_before p m (communications p s a)))) (sym c.at)
      where
        by : (m : ℕ) → m < media → (t : ℕ) → t < transfers p m → received_at (crossing_before (crossings p media) (Some m) t) ≡ stand_or (receive_before p m t)
        by m l zero k = refl
        by m l (suc t) k = ap received_at (crossing_there m t l (omega arith))

-- the signal of a full semaphore, and who waits for it
module _ (p : Program) (g : AreGuarded p) (q : ℕ) (l : q < length p.pairs) where
  pub signal_is : FirstIs p FullSignalled q (writing p (pair p q).buffer).writer (pair p q).signal_full
  signal_is = only_first p FullSignalled q (writing p (pair p q).buffer).writer (pair p q).signal_full
      (of_only p _ (Pre1 q) (same_numbers q) (full_signalled q) (writing p (pair p q).buffer).writer (pair p q).signal_full (g.pairs q l).signal_full)

  pub waiter_is : FirstIs p FullTaken q (pair p q).reader (pair p q).take_full
  waiter_is = only_first p FullTaken q (pair p q).reader (pair p q).take_full
      (of_only p _ (Suc1 q) (same_numbers q) (full_taken q) (pair p q).reader (pair p q).take_full (g.pairs q l).take_full)

  -- as the code finds it
  pub signal_told : (ms : List Mark) (m : Mark) → ms ≡ marks_of p FullSignalled q → Some m ≡ slice_get ms 0 → Some (record { sequence = m.sequence; at = m.at }) ≡ stand_or (signal_of p q)
  signal_told ms m e f =
      let w = signal_is in
      let same : m ≡ w.first = first_same (f ∙ ap (λ (xs : List Mark). slice_get xs 0) (e ∙ w.is)) in
      λ i. Some (record { sequence = (ap (λ (x : Mark). x.sequence) same ∙ w.sequence) i; at = (ap (λ (x : Mark). x.at) same ∙ w.at) i })
    where
      first_same : {x y : Mark} → Some x ≡ Some y → x ≡ y
      first_same {x} {y} e = cc

  pub no_signal : (ms : List Mark) → ms ≡ marks_of p FullSignalled q → None ≡ slice_get ms 0 → None ≡ stand_or (signal_of p q)
  no_signal ms e f = let w = signal_is in let z : None ≡ Some w.first = f ∙ ap (λ (xs : List Mark). slice_get xs 0) (e ∙ w.is) in absurd cc
