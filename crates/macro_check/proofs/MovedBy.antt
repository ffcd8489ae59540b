-- A transfer is moved where its entry in the table of transfers is, and its communicators wait.
use Rattle.std.proofs.Common.{◌≡◌, ℕ, ◌+◌, Bool, true, ◌&&◌, not, nat_eq, List, length, Some, sym, ap, arith, ◌∙◌}
use Rattle.std.specs.Prelude.{slice_get}
use Rattle.std.specs.List.{list_all}
use Rattle.std.proofs.lemmas.List.FromFn.{length-map-range_with_len}
use Rattle.std.proofs.lemmas.Option.{same_Some, slice_get_within}
use Rattle.program_tables.specs.declared.mark_table.Mark.{Mark}
use Rattle.sequence_build_laws.specs.declared.Instr.{Instr}
use Rattle.sequence_build_laws.specs.declared.SeqCode.{SeqCode}
use Rattle.sequence_build_laws.specs.declared.Program.{Program}
use Rattle.sequence_build_laws.specs.Instructions.{operator, turn_of}
use Rattle.sequence_build_laws.specs.MicroSteps.{transfers}
use Rattle.sequence_build_laws.specs.Places.{communication_at}
use Rattle.program_walks.specs.Walks.{all_at}
use Rattle.program_tables.specs.declared.crossings.Crossing.{Crossing}
use Rattle.program_tables.specs.Communications.{communicators_of}
use Rattle.program_tables.specs.Crossings.{crossing, crossing_by, crossings, crossings_on}
use Rattle.program_tables.proofs.Crossed.{all_from}
use Rattle.order_check.specs.Transfers.{is_received, is_sent, is_wait}
use Rattle.check_laws.specs.Tests.{is_moved, waits_between}
use Rattle.macro_check.specs.Tabled.{other_waits, waits_in}
use Rattle.macro_check.proofs.Told.{made_there}

module _ (p : Program) (t : ℕ) where
  others_are : (m sender receiver : ℕ) → list_all (other_waits p t sender receiver) (communicators_of p m) ≡ all_at (waits_between p m t sender receiver) 0 p.seqs
  others_are m sender receiver =
      all_from m (λ _. true) (λ _. true) (λ s. not (nat_eq s sender)) (λ s. not (nat_eq s receiver))
      (λ s (q : SeqCode). is_wait (operator p sender) (operator p receiver) true (slice_get q.turn (communication_at q.turn t)))
      (waits_in p t sender receiver) 0 p.seqs
      (λ i q e. ap (waits_in p t sender receiver) (let z : 0 + i ≡ i = omega arith in z)
      ∙ ap (λ (xs : List Instr). is_wait (operator p sender) (operator p receiver) true (slice_get xs (communication_at xs t))) (ap turn_of e))

  pub moved_is : (m : ℕ) (c : Crossing) (ms : List Mark) → c ≡ crossing p m t → ms ≡ communicators_of p m
      → (is_sent p m t c.sender c.receiver && is_received p m t c.sender c.receiver && list_all (other_waits p t c.sender c.receiver) ms) ≡ is_moved p m t
  moved_is m c ms e f =
      (λ i. is_sent p m t (e i).sender (e i).receiver && is_received p m t (e i).sender (e i).receiver && list_all (other_waits p t (e i).sender (e i).receiver) (f i))
      ∙ ap (λ (b : Bool). is_sent p m t (crossing p m t).sender (crossing p m t).receiver
      && is_received p m t (crossing p m t).sender (crossing p m t).receiver && b) (others_are m (crossing p m t).sender (crossing p m t).receiver)

  -- an entry is made of its own sequences
  pub by_itself : (m : ℕ) (c : Crossing) → c ≡ crossing p m t → c ≡ crossing_by p t c.sender c.receiver
  by_itself m c e = e ∙ (λ i. crossing_by p t (sym e i).sender (sym e i).receiver)

-- the entry at a place
pub crossing_here : (p : Program) (m t : ℕ) (row : List Crossing) (c : Crossing) → row ≡ crossings_on p m → slice_get row t ≡ Some c → c ≡ crossing p m t
crossing_here p m t row c e h =
    let many = length-map-range_with_len (crossing p m) 0 (transfers p m) in
    let l = slice_get_within row t c h in
    let n = ap (λ (xs : List Crossing). length xs) e in
    same_Some c (crossing p m t) (sym h ∙ ap (λ (xs : List Crossing). slice_get xs t) e ∙ made_there (crossing p m) (transfers p m) t (omega arith))

pub many_here : (p : Program) (m : ℕ) (row : List Crossing) → row ≡ crossings_on p m → length row ≡ transfers p m
many_here p m row e = ap (λ (xs : List Crossing). length xs) e ∙ length-map-range_with_len (crossing p m) 0 (transfers p m)

pub row_here : (p : Program) (media m : ℕ) (rows : List (List Crossing)) (row : List Crossing) → rows ≡ crossings p media → slice_get rows m ≡ Some row → row ≡ crossings_on p m
row_here p media m rows row e h =
    let many = length-map-range_with_len (crossings_on p) 0 media in
    let l = slice_get_within rows m row h in
    let n = ap (λ (xs : List (List Crossing)). length xs) e in
    same_Some row (crossings_on p m) (sym h ∙ ap (λ (xs : List (List Crossing)). slice_get xs m) e ∙ made_there (crossings_on p) media m (omega arith))

pub many_rows : (p : Program) (media : ℕ) (rows : List (List Crossing)) → rows ≡ crossings p media → length rows ≡ media
many_rows p media rows e = ap (λ (xs : List (List Crossing)). length xs) e ∙ length-map-range_with_len (crossings_on p) 0 media
