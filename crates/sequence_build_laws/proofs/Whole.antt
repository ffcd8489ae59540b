-- The program that is built from a valid schedule is well formed by its serial order.
use Rattle.std.proofs.Common.{◌≡◌, ℕ, ◌<◌, ◌≤◌, ◌⊎◌, Bool, true, false, cond, nat_eq, length, Option, Some, None, refl, sym, ap, inl, inr, arith, ◌∙◌}
use Rattle.std.specs.Prelude.{nat_le, slice_get}
use Rattle.std.proofs.lemmas.Bool.{false≢true, eqb-true, and_parts, leb-true}
use Rattle.std.proofs.lemmas.Option.{same_Some, slice_get_within}
use Rattle.std.proofs.lemmas.List.{length-map}
use Rattle.schedule.specs.Graph.{Graph}
use Rattle.schedule.specs.FlatValid.{is_flat}
use Rattle.schedule.specs.Archi.{Architecture, is_archi}
use Rattle.schedule.specs.Sequences.{sequences}
use Rattle.schedule.specs.declared.decision.Schedule.{Schedule}
use Rattle.schedule.specs.Valid.{is_valid}
use Rattle.executive_program.specs.declared.program.Instr.{Instr}
use Rattle.executive_program.specs.declared.program.Instr.TheVariants.{Suc0, Suc1, Pre0, Pre1, Call, Send, Recv, Sync}
use Rattle.executive_program.specs.declared.program.Program.{Program}
use Rattle.executive_program.specs.Instructions.{Reader, depth_of, depth_in, is_guarded as guarded}
use Rattle.executive_program.specs.Places.{places, carried}
use Rattle.executive_program.specs.WellFormed.{Stands, WritesAt, ReadsAt, NamesIn, IsBuffer}
use Rattle.executive_program.proofs.Reading.{any_of, of_writes, of_reads}
use Rattle.sequence_build_laws.specs.Serial.{copies, pairs, serial}
use Rattle.sequence_build_laws.specs.Built.{program_with, program_of, is_guarded, operator_in, BuiltAreWellFormed}
use Rattle.sequence_build_laws.proofs.Lists.{get_some}
use Rattle.sequence_build_laws.proofs.Loops as loops
use Rattle.sequence_build_laws.proofs.Lines as lines
use Rattle.sequence_build_laws.proofs.Lines.{Line}
use Rattle.sequence_build_laws.proofs.Setting.{Setting, order, Here, here, core_of, line_of, low_of}
use Rattle.sequence_build_laws.proofs.Guards as guards
use Rattle.sequence_build_laws.proofs.Works.{of_run}
use Rattle.sequence_build_laws.proofs.Comms.{S}
use Rattle.sequence_build_laws.proofs.Transfers as transfers
use Rattle.sequence_build_laws.proofs.Calls as calls

-- the pair of a semaphore line
abbrev pair_of : Instr → Option ℕ
pair_of (Suc0 q) = Some q
pair_of (Suc1 q) = Some q
pair_of (Pre0 q) = Some q
pair_of (Pre1 q) = Some q
pair_of _ = None

plain_pairs : (x : Instr) → lines.is_plain x ≡ true → pair_of x ≡ None
plain_pairs (Suc0 q) h = absurd (false≢true h)
plain_pairs (Suc1 q) h = absurd (false≢true h)
plain_pairs (Pre0 q) h = absurd (false≢true h)
plain_pairs (Pre1 q) h = absurd (false≢true h)
plain_pairs _ h = refl

module _ (g : Graph) (a : Architecture) (ticks : ℕ → ℕ → Option ℕ) (s : Schedule) (flat : is_flat g ≡ true)
    (right : is_archi a.operators a.media ≡ true) (valid : is_valid g a ticks s ≡ true) (depth : ℕ) where
  abbrev It : Setting
  It = S g a ticks s right valid depth

  abbrev prog : Program
  prog = program_with depth g a s

  pair_low : (q : ℕ) (r : Reader) → slice_get (pairs g a s) q ≡ Some r → q < length prog.pairs
  pair_low q r e = let l = slice_get_within (pairs g a s) q r e in let z = length-map (pairs g a s) (λ (r : Reader). operator_in (slice_get (copies g a s) r.buffer)) in omega arith

  -- what an instruction touches is there
  touched : (u at k b : ℕ) (x : Instr) → Stands prog u at x → WritesAt x k b ⊎ ReadsAt x k b → b < length prog.buffers
  touched u at k b x e t =
      let h = here It u at x e in
      let c = core_of It u at x h (plainly t) in
      let n = It.near h.block_number k b _ c.stands t in
      let l = slice_get_within (copies g a s) b n.0 n.2 in let z = It.buffers_many in omega arith
    where
      plainly : WritesAt x k b ⊎ ReadsAt x k b → lines.is_plain x ≡ true
      plainly (inl v) = Rattle.sequence_build_laws.proofs.Setting.writes_plain b x (of_writes b k x v)
      plainly (inr v) = Rattle.sequence_build_laws.proofs.Setting.reads_plain b x (of_reads b k x v)

  abbrev Names : Instr → Type 0
  Names x = NamesIn prog (order (S g a ticks s right valid depth)) (places prog) (carried prog) g x

  pair_in : (u at q : ℕ) (x : Instr) → Stands prog u at x → pair_of x ≡ Some q → q < length prog.pairs
  pair_in u at q x e k = by (here It u at x e) (line_of It u at x (here It u at x e))
    where
      is_it : (n : ℕ) (y : Instr) → x ≡ y → pair_of y ≡ Some n → n < length prog.pairs → q < length prog.pairs
      is_it n y is m l = let z = same_Some n q (sym m ∙ ap pair_of (sym is) ∙ k) in omega arith

      by : (h : Here It u at x) → Line It.pairs h.it h.inner x → q < length prog.pairs
      by h (lines.takes_full n o is j l) = is_it n (Suc1 n) is refl (pair_low n o.reader o.stands)
      by h (lines.takes_empty n o is j l) = is_it n (Suc0 n) is refl (pair_low n o.reader o.stands)
      by h (lines.signals_empty n o is j l) = is_it n (Pre0 n) is refl (pair_low n o.reader o.stands)
      by h (lines.signals_full n o is j l) = is_it n (Pre1 n) is refl (pair_low n o.reader o.stands)
      by h (lines.core is j) = let none : None ≡ Some q = sym (plain_pairs x (ap lines.is_plain is ∙ It.plain_only h.block_number h.it.it h.around.stands)) ∙ k in absurd cc

  named : (u at : ℕ) (x : Instr) → Stands prog u at x → NamesIn prog (order (S g a ticks s right valid depth)) (places prog) (carried prog) g x
  named u at (Suc0 q) e = pair_in u at q (Suc0 q) e refl
  named u at (Suc1 q) e = pair_in u at q (Suc1 q) e refl
  named u at (Pre0 q) e = pair_in u at q (Pre0 q) e refl
  named u at (Pre1 q) e = pair_in u at q (Pre1 q) e refl
  named u at (Send b o) e = touched u at 0 b (Send b o) e (inr (refl, refl))
  named u at (Recv b o) e = touched u at 0 b (Recv b o) e (inl (refl, refl))
  named u at (Sync o r) e = tt
  named u at (Call v ins outs) e =
      let c = calls.of_call g a ticks s flat right valid depth u at v ins outs e in
      let op : v ≡ c.it.op = calls.called_op g a ticks s flat right valid depth u at v ins outs c in
      let r = of_run g a ticks s valid c.number c.it c.act in (
        (let z = slice_get_within g.vertices c.it.op r.vertex r.there in omega arith),
        λ k b h. elim h [ inl i ↦ touched u at k b (Call v ins outs) e (inr i) | inr o ↦ touched u at k b (Call v ins outs) e (inl o) ],
      )

  -- buffers of several places
  depth_is : (b : ℕ) → b < length prog.buffers → depth_of prog b ≡ cond (is_guarded g a s b) depth 1
  depth_is b h = let c = get_some (copies g a s) b (let z = It.buffers_many in omega arith) in ap depth_in (It.buffers_are b c.0 c.1)

  depth_within : (b : ℕ) → b < length prog.buffers → 1 ≤ depth → depth ≤ 4 → (1 ≤ depth_of prog b) × (depth_of prog b ≤ 4)
  depth_within b h low high = by (is_guarded g a s b) (depth_is b h)
    where
      by : (t : Bool) → depth_of prog b ≡ cond t depth 1 → (1 ≤ depth_of prog b) × (depth_of prog b ≤ 4)
      by true e = (omega arith, omega arith)
      by false e = (omega arith, omega arith)

  depth_alone : (b : ℕ) → b < length prog.buffers → guarded prog b ≡ false → depth_of prog b ≡ 1
  depth_alone b h none = by (is_guarded g a s b) refl (depth_is b h)
    where
      by : (t : Bool) → is_guarded g a s b ≡ t → depth_of prog b ≡ cond t depth 1 → depth_of prog b ≡ 1
      by true e d = let r = any_of (λ (r : Reader). nat_eq r.buffer b) (pairs g a s) e in
          absurd (false≢true (sym none ∙ (ap (guarded prog) (sym (eqb-true r.1.buffer b r.3)) ∙ guards.guarded_by It r.0 r.1 r.2)))
      by false e d = d

  deep_buffer : 1 ≤ depth → depth ≤ 4 → (b : ℕ) → b < length prog.buffers → IsBuffer prog (order (S g a ticks s right valid depth)) (places prog) b
  deep_buffer low high b h =
      let d = guards.but_depth It b h in
      let w = depth_within b h low high in
      record {
        instr = d.instr;
        stands = d.stands;
        writes = d.writes;
        only = d.only;
        near = d.near;
        own_reads = d.own_reads;
        some_place = w.0;
        few_places = w.1;
        one_place = depth_alone b h;
      }

pub built_are_well_formed : BuiltAreWellFormed
built_are_well_formed g a ticks s flat right deep valid =
    let low = and_parts (nat_le 1 a.depth) (nat_le a.depth 4) deep in
    let least = leb-true 1 a.depth low.0 in
    let most = leb-true a.depth 4 low.1 in
    record {
      sequences = loops.seqs_are (program_of g a s) (serial g a s) (S g a ticks s right valid a.depth).prologues (sequences a) refl (low_of (S g a ticks s right valid a.depth));
      follows = loops.loops_followed (program_of g a s) (serial g a s) (S g a ticks s right valid a.depth).prologues (sequences a) refl (low_of (S g a ticks s right valid a.depth));
      named = named g a ticks s flat right valid a.depth;
      called = calls.is_called g a ticks s flat right valid a.depth;
      buffers = deep_buffer g a ticks s flat right valid a.depth least most;
      numbered = guards.pairs_numbered (S g a ticks s right valid a.depth);
      pairs = guards.is_pair (S g a ticks s right valid a.depth);
      prologues = guards.opens (S g a ticks s right valid a.depth);
      communicators = transfers.communicators g a ticks s right valid a.depth;
      on_media = transfers.on_media g a ticks s right valid a.depth;
      counts = transfers.counts g a ticks s right valid a.depth;
      transferred = λ m t _ h. transfers.is_transfer g a ticks s right valid a.depth m t h;
      carries = λ m t _ h. transfers.carries g a ticks s right valid a.depth m t h;
    }
