-- A buffer that is read in another sequence is guarded by a pair, and so has the program's number of places.
use Rattle.std.proofs.Common.{◌≡◌, ℕ, zero, suc, ◌+◌, Bool, true, false, not, [], length, Option, Some, None, refl, sym, ap, arith, ◌∙◌, eq-eqb}
use Rattle.std.specs.Prelude.{slice_get}
use Rattle.std.specs.List.{list_any}
use Rattle.std.specs.Cmp.Derive.{both_true}
use Rattle.std.proofs.lemmas.Bool.{false≢true}
use Rattle.std.proofs.lemmas.Option.{same_Some, slice_get_within}
use Rattle.sequence_build_laws.specs.Graph.{Graph}
use Rattle.sequence_build_laws.specs.declared.Seq.{Seq}
use Rattle.sequence_build_laws.specs.Archi.{Architecture, is_archi}
use Rattle.sequence_build_laws.specs.Sequences.{sequences}
use Rattle.sequence_build_laws.specs.declared.Schedule.{Schedule}
use Rattle.sequence_build_laws.specs.Acts.{Act, carry, run, acts, Copy, copy, read_by, made_by}
use Rattle.sequence_build_laws.specs.ScheduleValid.{is_valid}
use Rattle.sequence_build_laws.specs.Instructions.{reads, writes, readers_from, depth_of, depth_in}
use Rattle.sequence_build_laws.specs.WellFormed.{ReadsAt}
use Rattle.sequence_build_laws.proofs.Reading.{any_at, any_of, of_reads, writes_of, to_readers, in_all}
use Rattle.sequence_build_laws.specs.Tight.{same_line}
use Rattle.sequence_build_laws.specs.Serial.{Step, step, projection, copies, buffer_for, plain_steps, plain_program, pairs, steps_of}
use Rattle.sequence_build_laws.specs.Built.{program_with}
use Rattle.sequence_build_laws.proofs.Lists.{map_at, starts}
use Rattle.sequence_build_laws.proofs.Loops.{codes_at}
use Rattle.sequence_build_laws.proofs.Setting.{Setting}
use Rattle.sequence_build_laws.proofs.Guards.{in_projection, projection_at}
use Rattle.sequence_build_laws.proofs.Works.{made_buffer}
use Rattle.sequence_build_laws.proofs.Steps.{sending, calling, write_place, writing, writes_there, writes_made, from_there, to_there, at_there, step_at, setting}

module _ (g : Graph) (a : Architecture) (ticks : ℕ → ℕ → Option ℕ) (s : Schedule) (right : is_archi a.operators a.media ≡ true) (valid : is_valid g a ticks s ≡ true) where
  -- the step of an act that reads, and its sequence
  abbrev reading : Act → Step
  reading (carry t) = sending g a s t
  reading (run d) = calling g a s d

  reads_there : (x : Act) → slice_get (steps_of g a s x) 0 ≡ Some (reading x)
  reads_there (carry t) = refl
  reads_there (run d) = refl

  reads_copy : (x : Act) (k : ℕ) (c : Copy) → slice_get (read_by g.vertices x) k ≡ Some c → ReadsAt (reading x).instr k (buffer_for g a s c)
  reads_copy (carry t) zero c e = (ap (buffer_for g a s) (same_Some (copy t.from t.source) c e), refl)
  reads_copy (carry t) (suc k) c e = absurd cc
  reads_copy (run d) k c e = map_at (buffer_for g a s) (read_by g.vertices (run d)) k c e

  abbrev reader_seq : Act → Seq
  reader_seq (carry t) = record { operator = t.from; medium = Some t.medium }
  reader_seq (run d) = record { operator = d.operator; medium = None }

  abbrev writer_seq : Act → Seq
  writer_seq (carry t) = record { operator = t.to; medium = Some t.medium }
  writer_seq (run d) = record { operator = d.operator; medium = None }

  reader_there : (i : ℕ) (x : Act) → slice_get (acts s) i ≡ Some x → slice_get (sequences a) (reading x).sequence ≡ Some (reader_seq x)
  reader_there i (carry t) e = from_there g a ticks s right valid i t e
  reader_there i (run d) e = at_there g a ticks s right valid i d e

  writer_there : (i : ℕ) (x : Act) → slice_get (acts s) i ≡ Some x → slice_get (sequences a) (writing g a s x).sequence ≡ Some (writer_seq x)
  writer_there i (carry t) e = to_there g a ticks s right valid i t e
  writer_there i (run d) e = at_there g a ticks s right valid i d e

  -- one sequence is one operator or one medium
  one_line : (x y : Act) → writer_seq x ≡ reader_seq y → same_line x y ≡ true
  one_line (carry t) (carry u) e = eq-eqb u.medium t.medium (sym (same_Some t.medium u.medium (ap (λ (q : Seq). q.medium) e)))
  one_line (run d) (run b) e = eq-eqb b.operator d.operator (sym (ap (λ (q : Seq). q.operator) e))
  one_line (carry t) (run b) e = let z : Some t.medium ≡ None = ap (λ (q : Seq). q.medium) e in absurd cc
  one_line (run d) (carry u) e = let z : None ≡ Some u.medium = ap (λ (q : Seq). q.medium) e in absurd cc

  pub is_deep : (depth i j h k : ℕ) (x y : Act) (c : Copy) → slice_get (acts s) i ≡ Some x → slice_get (acts s) j ≡ Some y
      → slice_get (made_by g.vertices x) h ≡ Some c → slice_get (read_by g.vertices y) k ≡ Some c
      → same_line x y ≡ false → depth_of (program_with depth g a s) (buffer_for g a s c) ≡ depth
  is_deep depth i j h k x y c e d m r apart = ap depth_in (S.buffers_are b c copied) ∙ S.guarded paired.0 (record { buffer = b; sequence = 0 + t }) paired.1
    where
      S : Setting
      S = setting g a ticks s right valid depth

      b : ℕ
      b = buffer_for g a s c

      t : ℕ
      t = (reading y).sequence

      copied : slice_get (copies g a s) (buffer_for g a s c) ≡ Some c
      copied = made_buffer g a ticks s valid i h x c e m

      read_step : slice_get (plain_steps g a s) (starts (steps_of g a s) (acts s) j + 0) ≡ Some (reading y)
      read_step = step_at g a s j 0 y (reading y) d (reads_there y)

      write_step : slice_get (plain_steps g a s) (starts (steps_of g a s) (acts s) i + write_place g a s x) ≡ Some (writing g a s x)
      write_step = step_at g a s i (write_place g a s x) x (writing g a s x) e (writes_there g a s x)

      reads_it : list_any (reads (buffer_for g a s c)) (projection (plain_steps g a s) (reading y).sequence) ≡ true
      reads_it =
          let at = projection_at (plain_steps g a s) (starts (steps_of g a s) (acts s) j + 0) (reading y).sequence (reading y).instr read_step in
          any_at (reads (buffer_for g a s c)) (projection (plain_steps g a s) (reading y).sequence) at.0 (reading y).instr at.1 (of_reads (buffer_for g a s c) k (reading y).instr (reads_copy y k c r))

      no_write : (w : Bool) → list_any (writes (buffer_for g a s c)) (projection (plain_steps g a s) (reading y).sequence) ≡ w
          → not (list_any (writes (buffer_for g a s c)) (projection (plain_steps g a s) (reading y).sequence)) ≡ true
      no_write false q = ap not q
      no_write true q =
          let z = any_of (writes (buffer_for g a s c)) (projection (plain_steps g a s) (reading y).sequence) q in
          let v = writes_of (buffer_for g a s c) z.1 z.3 in
          let u = in_projection (plain_steps g a s) (reading y).sequence z.0 z.1 z.2 in
          let one = Rattle.sequence_build_laws.proofs.Steps.written_once g a ticks s right valid u.0
          (starts (steps_of g a s) (acts s) i + write_place g a s x) v.0 h (buffer_for g a s c) (step (reading y).sequence z.1)
          (writing g a s x) u.1 write_step v.1
          (writes_made g a s x h (buffer_for g a s c) c m refl) in
          let same : step (reading y).sequence z.1 ≡ writing g a s x = same_Some (step (reading y).sequence z.1) (writing g a s x) (sym u.1 ∙ ap (slice_get (plain_steps g a s)) one.0 ∙ write_step) in
          let seq : (writing g a s x).sequence ≡ (reading y).sequence = ap (λ (w : Step). w.sequence) (sym same) in
          let seqs = same_Some (writer_seq x) (reader_seq y) (sym (writer_there i x e) ∙ ap (slice_get (sequences a)) seq ∙ reader_there j y d) in
          absurd (false≢true (sym apart ∙ one_line x y seqs))

      code : slice_get (plain_program g a s).seqs (reading y).sequence ≡ Some (record { seq = reader_seq y; prologue = []; turn = projection (plain_steps g a s) (reading y).sequence })
      code = codes_at (λ _. []) (projection (plain_steps g a s)) 0 (reading y).sequence (sequences a) (reading y).sequence (reader_seq y) (reader_there j y d) (omega arith)

      paired : (q : ℕ) × (slice_get (pairs g a s) q ≡ Some (record { buffer = buffer_for g a s c; sequence = 0 + (reading y).sequence }))
      paired =
          let f = to_readers 0 (plain_program g a s).seqs (buffer_for g a s c) (reading y).sequence
          (record { seq = reader_seq y; prologue = []; turn = projection (plain_steps g a s) (reading y).sequence }) code
          (both_true reads_it (no_write (list_any (writes (buffer_for g a s c)) (projection (plain_steps g a s) (reading y).sequence)) refl)) in
          let l = slice_get_within (copies g a s) (buffer_for g a s c) c copied in
          in_all (readers_from 0 (plain_program g a s).seqs) (length (plain_program g a s).buffers) (buffer_for g a s c) f.0
          (record { buffer = buffer_for g a s c; sequence = 0 + (reading y).sequence })
          (let z = S.buffers_without in omega arith) f.1
