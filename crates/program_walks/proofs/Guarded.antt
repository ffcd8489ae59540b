-- The test of pairs is true exactly where they are numbered and guard their buffers.
use Rattle.std.proofs.Common.{◌≡◌, ℕ, zero, suc, ◌<◌, Bool, true, ◌&&◌, nat_eq, List, [], ◌∷◌, map, length, get_or, refl, sym, ap, subst, eq-eqb, arith, ◌∙◌}
use Rattle.std.specs.Prelude.{slice_get, Option, Some, None, nat_lt}
use Rattle.std.specs.Cmp.Derive.{both_true}
use Rattle.std.proofs.lemmas.Bool.{false≢true, and_parts, eqb-true, ltb-true, lt-ltb}
use Rattle.std.proofs.lemmas.List.{length-map}
use Rattle.std.proofs.lemmas.Option.{slice_get-get_or, slice_get_within}
use Rattle.executive_program.specs.declared.program.Instr.{Instr}
use Rattle.executive_program.specs.declared.program.Instr.TheVariants.{Suc0, Suc1, Pre0, Pre1}
use Rattle.executive_program.specs.declared.program.Program.{Program}
use Rattle.executive_program.specs.Instructions.{Reader, reads, readers, turn}
use Rattle.executive_program.specs.Places.{places, reader, reader_or, signals_empty, signals_full, takes_empty, takes_full, writer_of, written_at}
use Rattle.executive_program.specs.WellFormed.{IsOnly, IsPair, ReadsAt, Stands, operator_of}
use Rattle.executive_program.proofs.Passing.{empty_taken, full_taken, empty_signalled, full_signalled}
use Rattle.executive_program.proofs.Reading.{reads_of, of_reads}
use Rattle.program_walks.specs.Walks.{all_at, every, implies}
use Rattle.program_walks.specs.Pairs.{are_pairs, first_place, guards, has_operator, is_full_first, is_read_between, is_written_between, reads_between}
use Rattle.program_walks.specs.Acts.{is_only, passes}
use Rattle.program_walks.proofs.ListTests.{every_of, of_every, from_zero, to_zero, implied, implying}
use Rattle.program_walks.proofs.Readings.{same_numbers}

passed : (test : Instr → Bool) (x : Instr) → ((y : Instr) → test y ≡ true → y ≡ x) → (o : Option Instr) → passes test o ≡ true → o ≡ Some x
passed test x same None h = absurd (false≢true h)
passed test x same (Some y) h = ap (λ (z : Instr). Some z) (same y h)

operators_same : (o : Option ℕ) (n : Option ℕ) → has_operator o n ≡ true → (k : ℕ) × (o ≡ Some k) × (n ≡ Some k)
operators_same (Some a) (Some b) h = (a, refl, ap (λ (k : ℕ). Some k) (sym (eqb-true a b h)))
operators_same (Some a) None h = absurd (false≢true h)
operators_same None n h = absurd (false≢true h)

same_operators : (o : Option ℕ) (n : Option ℕ) (k : ℕ) → o ≡ Some k → n ≡ Some k → has_operator o n ≡ true
same_operators o n k e f = subst (λ (o : Option ℕ). has_operator o n ≡ true) (sym e) (subst (λ (n : Option ℕ). has_operator (Some k) n ≡ true) (sym f) (same_numbers k))

maps_same : (f : Reader → Option ℕ) (xs : List ℕ) (ys : List Reader) → length xs ≡ length ys → ((i : ℕ) (y : Reader) → slice_get ys i ≡ Some y → slice_get xs i ≡ f y) → map (λ o. Some o) xs ≡ map f ys
maps_same f [] [] n h = refl
maps_same f [] (y ∷ ys) n h = absurd (omega (arith, n))
maps_same f (x ∷ xs) [] n h = absurd (omega (arith, n))
maps_same f (x ∷ xs) (y ∷ ys) n h =
    let rest = maps_same f xs ys (let m : length xs ≡ length ys = omega (arith, n) in m) (λ i z e. h (suc i) z e) in
    λ i. h zero y refl i ∷ rest i

same_maps : (f : Reader → Option ℕ) (xs : List ℕ) (ys : List Reader) → map (λ o. Some o) xs ≡ map f ys → (i : ℕ) (y : Reader)
    → slice_get ys i ≡ Some y → (k : ℕ) × (slice_get xs i ≡ Some k) × (f y ≡ Some k)
same_maps f [] [] h i y e = absurd (cc)
same_maps f [] (z ∷ ys) h i y e = absurd (cc)
same_maps f (x ∷ xs) [] h i y e = absurd (cc)
same_maps f (x ∷ xs) (z ∷ ys) h zero y e =
    let same : z ≡ y = cc in
    let here : Some x ≡ f z = cc in
    (x, refl, sym (here ∙ ap f same))
same_maps f (x ∷ xs) (z ∷ ys) h (suc i) y e = let rest : map (λ o. Some o) xs ≡ map f ys = cc in same_maps f xs ys rest i y e

module _ (p : Program) where
  pub only_of : (test : Instr → Bool) (x : Instr) → test x ≡ true → ((y : Instr) → test y ≡ true → y ≡ x) → (s a : ℕ) → is_only p test s a ≡ true → IsOnly p s a x
  only_of test x itself same s a h =
      let parts = and_parts (passes test (slice_get (turn p s) a)) (every p (λ t b y. implies (test y) (nat_eq t s && nat_eq b a))) h in
      record {
        stands = passed test x same (slice_get (turn p s) a) parts.0;
        only = λ t b e.
            let r = and_parts (nat_eq t s) (nat_eq b a) (implied (test x) (nat_eq t s && nat_eq b a) (every_of p (λ t b y. implies (test y) (nat_eq t s && nat_eq b a)) parts.1 t b x e) itself) in
            (eqb-true t s r.0, eqb-true b a r.1);
      }

  pub of_only : (test : Instr → Bool) (x : Instr) → test x ≡ true → ((y : Instr) → test y ≡ true → y ≡ x) → (s a : ℕ) → IsOnly p s a x → is_only p test s a ≡ true
  of_only test x itself same s a r =
      both_true (subst (λ (o : Option Instr). passes test o ≡ true) (sym r.stands) itself)
      (of_every p (λ t b y. implies (test y) (nat_eq t s && nat_eq b a)) (λ t b y e.
      implying (test y) (nat_eq t s && nat_eq b a) (λ ty.
      let z = r.only t b (e ∙ ap (λ (z : Instr). Some z) (same y ty)) in both_true (eq-eqb t s z.0) (eq-eqb b a z.1))))

  abbrev between_test : ℕ → ℕ → ℕ → ℕ → Instr → Bool
  between_test b after before a x = implies (reads b x) (nat_lt after a && nat_lt a before)

  between_of : (b s after before : ℕ) → reads_between p b s after before ≡ true → (a k : ℕ) (x : Instr) → Stands p s a x → ReadsAt x k b → (after < a) × (a < before)
  between_of b s after before h a k x e t =
      let r = and_parts (nat_lt after a) (nat_lt a before) (implied (reads b x) (nat_lt after a && nat_lt a before) (from_zero (between_test b after before) (turn p s) h a x e) (of_reads b k x t)) in
      (ltb-true after a r.0, ltb-true a before r.1)

  of_between : (b s after before : ℕ) → ((a k : ℕ) (x : Instr) → Stands p s a x → ReadsAt x k b → (after < a) × (a < before)) → reads_between p b s after before ≡ true
  of_between b s after before h =
      to_zero (between_test b after before) (turn p s) (λ a x e.
      implying (reads b x) (nat_lt after a && nat_lt a before) (λ t.
      let r = reads_of b x t in let l = h a r.0 x e r.1 in both_true (lt-ltb after a l.0) (lt-ltb a before l.1)))

  abbrev Writes : ℕ → ℕ → ℕ → ℕ → ℕ → Type 0
  Writes q w at take signal = IsOnly p w take (Suc0 q) × IsOnly p w signal (Pre1 q) × (take < at) × (at < signal)

  -- the test of the writing sequence, and that of the reading one
  pub written_of : (q w at : ℕ) → is_written_between p q w at ≡ true → Writes q w at (first_place p (takes_empty q) w) (first_place p (signals_full q) w)
  written_of q w at h =
      let after = and_parts _ (nat_lt at (first_place p (signals_full q) w)) h in
      let before = and_parts _ (nat_lt (first_place p (takes_empty q) w) at) after.0 in
      let acts = and_parts (is_only p (takes_empty q) w (first_place p (takes_empty q) w)) (is_only p (signals_full q) w (first_place p (signals_full q) w)) before.0 in (
        only_of (takes_empty q) (Suc0 q) (same_numbers q) (empty_taken q) w (first_place p (takes_empty q) w) acts.0,
        only_of (signals_full q) (Pre1 q) (same_numbers q) (full_signalled q) w (first_place p (signals_full q) w) acts.1,
        ltb-true (first_place p (takes_empty q) w) at before.1,
        ltb-true at (first_place p (signals_full q) w) after.1,
      )

  pub of_written : (q w at : ℕ) → Writes q w at (first_place p (takes_empty q) w) (first_place p (signals_full q) w) → is_written_between p q w at ≡ true
  of_written q w at r =
      both_true (both_true (both_true
      (of_only (takes_empty q) (Suc0 q) (same_numbers q) (empty_taken q) w (first_place p (takes_empty q) w) r.0)
      (of_only (signals_full q) (Pre1 q) (same_numbers q) (full_signalled q) w (first_place p (signals_full q) w) r.1))
      (lt-ltb (first_place p (takes_empty q) w) at r.2))
      (lt-ltb at (first_place p (signals_full q) w) r.3)

  abbrev Reads : ℕ → ℕ → ℕ → ℕ → ℕ → Type 0
  Reads q b s take signal = IsOnly p s take (Suc1 q) × IsOnly p s signal (Pre0 q) × ((a k : ℕ) (x : Instr) → Stands p s a x → ReadsAt x k b → (take < a) × (a < signal))

  pub read_of : (q b s : ℕ) → is_read_between p q b s ≡ true → Reads q b s (first_place p (takes_full q) s) (first_place p (signals_empty q) s)
  read_of q b s h =
      let between = and_parts _ (reads_between p b s (first_place p (takes_full q) s) (first_place p (signals_empty q) s)) h in
      let own = and_parts (is_only p (takes_full q) s (first_place p (takes_full q) s)) (is_only p (signals_empty q) s (first_place p (signals_empty q) s)) between.0 in (
        only_of (takes_full q) (Suc1 q) (same_numbers q) (full_taken q) s (first_place p (takes_full q) s) own.0,
        only_of (signals_empty q) (Pre0 q) (same_numbers q) (empty_signalled q) s (first_place p (signals_empty q) s) own.1,
        between_of b s (first_place p (takes_full q) s) (first_place p (signals_empty q) s) between.1,
      )

  pub of_read : (q b s : ℕ) → Reads q b s (first_place p (takes_full q) s) (first_place p (signals_empty q) s) → is_read_between p q b s ≡ true
  of_read q b s r =
      both_true (both_true
      (of_only (takes_full q) (Suc1 q) (same_numbers q) (full_taken q) s (first_place p (takes_full q) s) r.0)
      (of_only (signals_empty q) (Pre0 q) (same_numbers q) (empty_signalled q) s (first_place p (signals_empty q) s) r.1))
      (of_between b s (first_place p (takes_full q) s) (first_place p (signals_empty q) s) r.2)

  abbrev Numbered : Type 0
  Numbered = map (λ o. Some o) p.pairs ≡ map (λ (r : Reader). operator_of p r.buffer) (readers p)

  -- the pair stands among the pairs, on the operator of its buffer
  abbrev is_there : ℕ → Reader → Bool
  is_there q x = nat_lt q (length p.pairs) && has_operator (slice_get p.pairs q) (operator_of p x.buffer)

  -- A test of all readers, each with its pair.
  module _ (test : ℕ → Reader → Bool) where
    abbrev all_pass : Bool
    all_pass = nat_eq (length p.pairs) (length (readers p)) && all_at test 0 (readers p)

    as_many : all_pass ≡ true → length p.pairs ≡ length (readers p)
    as_many h = eqb-true (length p.pairs) (length (readers p)) (and_parts (nat_eq (length p.pairs) (length (readers p))) (all_at test 0 (readers p)) h).0

    passes_at : all_pass ≡ true → (q : ℕ) (x : Reader) → slice_get (readers p) q ≡ Some x → test q x ≡ true
    passes_at h = from_zero test (readers p) (and_parts (nat_eq (length p.pairs) (length (readers p))) (all_at test 0 (readers p)) h).1

    reader_is : (q : ℕ) (x : Reader) → slice_get (readers p) q ≡ Some x → reader p q ≡ x
    reader_is q x e = ap reader_or e

    pub all_numbered : ((q : ℕ) (x : Reader) → test q x ≡ true → is_there q x ≡ true) → all_pass ≡ true → Numbered
    all_numbered there h =
        maps_same (λ (r : Reader). operator_of p r.buffer) p.pairs (readers p) (as_many h) (λ q x e.
        let named = (and_parts (nat_lt q (length p.pairs)) (has_operator (slice_get p.pairs q) (operator_of p x.buffer)) (there q x (passes_at h q x e))).1 in
        let k = operators_same (slice_get p.pairs q) (operator_of p x.buffer) named in
        k.1 ∙ sym k.2)

    pub pair_passes : all_pass ≡ true → (q : ℕ) → q < length p.pairs → test q (reader p q) ≡ true
    pair_passes h q l =
        let m : q < length (readers p) = omega (arith, l, as_many h) in
        let x = get_or (readers p) q (record { buffer = 0; sequence = 0 }) in
        let e = slice_get-get_or (readers p) q (record { buffer = 0; sequence = 0 }) m in
        subst (λ (z : Reader). test q z ≡ true) (sym (reader_is q x e)) (passes_at h q x e)

    pub all_of : Numbered → ((q : ℕ) → q < length p.pairs → is_there q (reader p q) ≡ true → test q (reader p q) ≡ true) → all_pass ≡ true
    all_of n h =
        let many : length p.pairs ≡ length (readers p) = sym (length-map p.pairs (λ o. Some o))
        ∙ ap (λ (os : List (Option ℕ)). length os) n ∙ length-map (readers p) (λ (r : Reader). operator_of p r.buffer) in
        both_true (eq-eqb (length p.pairs) (length (readers p)) many)
        (to_zero test (readers p) (λ q x e.
        let l : q < length p.pairs = omega (arith, many, slice_get_within (readers p) q x e) in
        let same = reader_is q x e in
        let k = same_maps (λ (r : Reader). operator_of p r.buffer) p.pairs (readers p) n q x e in
        let there = both_true (lt-ltb q (length p.pairs) l)
        (same_operators (slice_get p.pairs q) (operator_of p (reader p q).buffer) k.0 k.1 (ap (λ (z : Reader). operator_of p z.buffer) same ∙ k.2)) in
        subst (λ (z : Reader). test q z ≡ true) same (h q l there)))

  module _ (order : List ℕ) where
    pub numbered_of : are_pairs p order ≡ true → Numbered
    numbered_of = all_numbered (guards p order) (λ q x g.
        let full = (and_parts _ (is_full_first p order q (writer_of p x.buffer) x.sequence) g).0 in
        let read = (and_parts _ (is_read_between p q x.buffer x.sequence) full).0 in
        (and_parts (is_there q x) (is_written_between p q (writer_of p x.buffer) (written_at p x.buffer)) read).0)

    pair_of : (q : ℕ) → guards p order q (reader p q) ≡ true → IsPair p order (places p) q
    pair_of q h =
        let b = (reader p q).buffer in
        let s = (reader p q).sequence in
        let w = writer_of p b in
        let full = and_parts _ (is_full_first p order q w s) h in
        let read = and_parts _ (is_read_between p q b s) full.0 in
        let write = written_of q w (written_at p b) (and_parts (is_there q (reader p q)) (is_written_between p q w (written_at p b)) read.0).1 in
        let reads = read_of q b s read.1 in
        record {
          take_empty = write.0;
          signal_full = write.1;
          take_full = reads.0;
          signal_empty = reads.1;
          before_write = write.2;
          after_write = write.3;
          full_first = ltb-true _ _ full.1;
          reads = reads.2;
        }

    pub pairs_of : are_pairs p order ≡ true → (q : ℕ) → q < length p.pairs → IsPair p order (places p) q
    pairs_of h q l = pair_of q (pair_passes (guards p order) h q l)

    pub of_pairs : Numbered → ((q : ℕ) → q < length p.pairs → IsPair p order (places p) q) → are_pairs p order ≡ true
    of_pairs n h = all_of (guards p order) n (λ q l there.
        let b = (reader p q).buffer in
        let r = h q l in
        both_true (both_true (both_true there
        (of_written q (writer_of p b) (written_at p b) (r.take_empty, r.signal_full, r.before_write, r.after_write)))
        (of_read q b (reader p q).sequence (r.take_full, r.signal_empty, r.reads)))
        (lt-ltb _ _ r.full_first))
