-- The program that is assembled is that of the schedule.
use Rattle.std.proofs.Common.{◌≡◌, ℕ, suc, ◌+◌, ◌<◌, ◌≤◌, true, List, [], ◌∷◌, length, map, Option, None, refl, sym, ap, subst, arith, ◌∙◌, Vec, Global}
use Rattle.std.specs.Prelude.{slice_get, slice_index_or, nat_eq}
use Rattle.std.specs.List.{flat_map, position_or_len}
use Rattle.std.proofs.lemmas.List.{length-map}
use Rattle.syn_base.specs.declared.limits.LimitFault.{LimitFault}
use Rattle.sequence_build_laws.specs.Graph.{Graph}
use Rattle.sequence_build_laws.specs.FlatValid.{is_flat}
use Rattle.sequence_build_laws.specs.declared.Seq.{Seq}
use Rattle.sequence_build_laws.specs.Archi.{Architecture, is_archi, is_depth}
use Rattle.sequence_build_laws.specs.Sequences.{sequences}
use Rattle.sequence_build_laws.specs.declared.Schedule.{Schedule}
use Rattle.sequence_build_laws.specs.Acts.{Act, carry, run, acts, Copy}
use Rattle.sequence_build_laws.specs.declared.Instr.{Instr}
use Rattle.sequence_build_laws.specs.declared.Program.{Program}
use Rattle.sequence_build_laws.specs.Instructions.{Reader, readers}
use Rattle.sequence_build_laws.specs.Serial.{Step, projection, codes, copies, buffer_for, plain_steps, plain_program, steps_of as serial_steps}
use Rattle.sequence_build_laws.specs.Guarded.{guarded, operator_in, guarded_buffers}
use Rattle.sequence_build_laws.specs.Built.{program_of}
use Rattle.sequence_build_laws.proofs.Guards.{map-map}
use Rattle.sequence_build_laws.proofs.Guarded as law
use Rattle.sequence_build_laws.proofs.Whole as whole
use Rattle.sequence_build.specs.Limit.{program_limit}
use Rattle.sequence_build.specs.Numbers.{place, number_in, AreCovered}
use Rattle.sequence_build.specs.Plain.{steps_of, elements, HasLoops, codes_from}
use Rattle.sequence_build.specs.Pairs.{plain_pairs}
use Rattle.sequence_build.specs.Program.{assembled}
use Rattle.sequence_build.specs.Answers.{IsValid, IsProgram}
use Rattle.sequence_build.proofs.Covering.{once, single}
use Rattle.sequence_build.proofs.Deepening.{AreSingle, buffers_same, reader_of}
use Rattle.sequence_build.proofs.Guarding.{codes_same}
use Rattle.sequence_build.proofs.Numbering.{numbers_are}
use Rattle.sequence_build.proofs.Pairing.{WritesOnce, readers_are}

-- the loops with their sequences
loops_are : (xs : List Step) (n : ℕ) (vs : List (Vec Instr Global)) (qs : List Seq) → length vs ≡ length qs → ((i : ℕ) → i < length vs → elements (slice_get vs i) ≡ projection xs (n + i))
    → codes_from vs qs ≡ codes (λ _. []) (projection xs) n qs
loops_are xs n [] [] e h = refl
loops_are xs n [] (q ∷ qs) e h = absurd (omega arith)
loops_are xs n (v ∷ vs) [] e h = absurd (omega arith)
loops_are xs n (v ∷ vs) (q ∷ qs) e h =
    let here : v.items ≡ projection xs n = h 0 (omega arith) ∙ ap (projection xs) (let z : n + 0 ≡ n = omega arith in z) in
    let rest = loops_are xs (suc n) vs qs (omega arith) (λ i l. h (suc i) (omega arith) ∙ ap (projection xs) (let z : n + suc i ≡ suc n + i = omega arith in z)) in
    λ i. record { seq = q; prologue = []; turn = here i } ∷ rest i

module _ (g : Graph) (a : Architecture) (s : Schedule) where
  pub same_steps : (number : Copy → ℕ) → ((c : Copy) → number c ≡ buffer_for g a s c) → (x : Act) → steps_of g.vertices (sequences a) number x ≡ serial_steps g a s x
  same_steps number e x = ap (λ (f : Copy → ℕ). steps_of g.vertices (sequences a) f x) (λ i c. e c i) ∙ by x
    where
      by : (x : Act) → steps_of g.vertices (sequences a) (buffer_for g a s) x ≡ serial_steps g a s x
      by (carry t) = refl
      by (run d) = refl

  -- the table of the copies' places says the number of each copy's buffer
  pub copy_number : length g.vertices ≤ 2048 → AreCovered (length g.vertices) (copies g a s) → (places table : List ℕ)
      → places ≡ map (place (length g.vertices)) (copies g a s)
      → ((k : ℕ) → slice_index_or table k (length places) ≡ position_or_len (nat_eq k) places)
      → (c : Copy) → number_in (length g.vertices) table (length places) c ≡ buffer_for g a s c
  copy_number few cover places table are each c =
      let operations = length g.vertices in
      let size : length places ≡ length (copies g a s) = ap (λ (l : List ℕ). length l) are ∙ length-map (copies g a s) (place operations) in
      ap (λ (n : ℕ). number_in operations table n c) size
      ∙ numbers_are operations few (copies g a s) table cover (λ k. ap (slice_index_or table k) (sym size) ∙ each k ∙ ap (position_or_len (nat_eq k)) are) c

  -- the loops that the code makes
  pub plain_loops : length g.vertices ≤ 2048 → AreCovered (length g.vertices) (copies g a s) → (places table : List ℕ) (vs : List (Vec Instr Global))
      → places ≡ map (place (length g.vertices)) (copies g a s)
      → ((k : ℕ) → slice_index_or table k (length places) ≡ position_or_len (nat_eq k) places)
      → length vs ≡ length (sequences a) → HasLoops vs (flat_map (steps_of g.vertices (sequences a) (number_in (length g.vertices) table (length places))) (acts s))
      → codes_from vs (sequences a) ≡ codes (λ _. []) (projection (plain_steps g a s)) 0 (sequences a)
  plain_loops few cover places table vs are each count loops =
      loops_are (plain_steps g a s) 0 vs (sequences a) count (λ i l.
      loops i l
      ∙ (λ j. projection (flat_map (λ x. same_steps (number_in (length g.vertices) table (length places)) (copy_number few cover places table are each) x j) (acts s)) i)
      ∙ ap (projection (plain_steps g a s)) (let z : i ≡ 0 + i = omega arith in z))

-- A program with the semaphores of its pairs, where each buffer is written once and has one place.
pub guarded_is : (depth : ℕ) (p : Program) → WritesOnce p.seqs → AreSingle p.buffers → guarded depth p ≡ assembled depth p
guarded_is depth p once single =
    let ps = plain_pairs p in
    let readers_path : readers p ≡ map reader_of ps = sym (readers_are p once) in
    let buffers = ap (λ (l : List Reader). guarded_buffers depth l 0 p.buffers) readers_path ∙ buffers_same depth ps p.buffers single in
    let operators = ap (map (λ (r : Reader). operator_in (slice_get p.buffers r.buffer))) readers_path ∙ map-map (λ (r : Reader). operator_in (slice_get p.buffers r.buffer)) reader_of ps in
    let seqs = codes_same p once depth in
    λ i. record { buffers = buffers i; pairs = operators i; seqs = seqs i }

module _ (g : Graph) (a : Architecture) (s : Schedule) (flat : is_flat g ≡ true) (right : is_archi a.operators a.media ≡ true) (deep : is_depth a.depth ≡ true) (valid : IsValid g a s) where
  pub program_is : program_of g a s ≡ assembled a.depth (plain_program g a s)
  program_is =
      law.built_are_guarded g a s
      ∙ guarded_is a.depth (plain_program g a s) (once g a valid.0 s flat right valid.1) (single g a valid.0 s flat right valid.1)

  -- what is answered, where the program is within its limit
  pub made_is : (limit : Option LimitFault) → limit ≡ program_limit (program_of g a s) (length a.media) → None ≡ limit → (p : Program) → p ≡ assembled a.depth (plain_program g a s) → IsProgram g a s p
  made_is limit e none p h = record {
    is = h ∙ sym program_is;
    within = ap (λ (q : Program). program_limit q (length a.media)) (h ∙ sym program_is) ∙ sym e ∙ sym none;
    formed = subst (λ (q : Program). Rattle.sequence_build_laws.specs.WellFormed.IsOrder q g (sequences a) (length a.media)
        (Rattle.sequence_build_laws.specs.Built.order_of g a s)) (program_is ∙ sym h)
        (whole.built_are_well_formed g a valid.0 s flat right deep valid.1);
  }
