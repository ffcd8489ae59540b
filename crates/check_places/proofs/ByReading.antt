-- Pairs by the list of readings: their places, and what prologues signal for them.
use Rattle.std.proofs.Common.{
  ◌≡◌,
  ◌≢◌,
  ℕ,
  zero,
  suc,
  ◌+◌,
  ◌<◌,
  Bool,
  true,
  false,
  List,
  [],
  ◌∷◌,
  ◌++◌,
  length,
  map,
  refl,
  sym,
  ap,
  subst,
  cond,
  nat_eq,
  eq-eqb,
  ne_eqb,
  append-nil,
  append_assoc,
  arith,
  ◌∙◌,
}
use Rattle.std.specs.Prelude.{Option, Some, None, slice_get, option_map}
use Rattle.std.proofs.lemmas.List.{length-map}
use Rattle.std.proofs.lemmas.Option.{same_Some, slice_get-map}
use Rattle.sequence_build_laws.specs.declared.Program.{Program}
use Rattle.sequence_build_laws.specs.Blocks.{blocks, repeated}
use Rattle.sequence_build_laws.specs.Instructions.{Reader, depth_of, readers, readers_from}
use Rattle.sequence_build_laws.specs.MicroSteps.{first_of}
use Rattle.sequence_build_laws.specs.Places.{opening_signals, reader, reader_or}
use Rattle.sequence_build_laws.proofs.Reading.{from_readers}
use Rattle.sequence_build_laws.proofs.Guards.{in_blocks}
use Rattle.program_tables.specs.declared.readings.Reading.{Reading}
use Rattle.program_tables.specs.Readings.{reading_of, readings}
use Rattle.check_places.specs.declared.place.Place.{Place}
use Rattle.check_places.specs.First.{first_from}
use Rattle.check_places.specs.Pairs.{pair_place, pairs_signalled}

abbrev pub reader_of : Reading → Reader
reader_of r = record { buffer = r.buffer; sequence = r.sequence }

-- the first of these readings is that of their readers
each_reading : (place : ℕ → Reader → Option Place) (n : ℕ) (xs : List Reader)
    → first_from (λ q (r : Reading). place q (reader_of r)) n (map reading_of xs) ≡ first_from place n xs
each_reading place n [] = refl
each_reading place n (x ∷ xs) = ap (λ (o : Option Place). first_of (place n x) o) (each_reading place (n + 1) xs)

-- one number more
more : (q n : ℕ) → repeated q n ++ q ∷ [] ≡ repeated q (suc n)
more q zero = refl
more q (suc n) = ap (λ (xs : List ℕ). q ∷ xs) (more q n)

pub pushed : (q n : ℕ) (first old new : List ℕ) → new ≡ old ++ q ∷ [] → old ≡ first ++ repeated q n → new ≡ first ++ repeated q (n + 1)
pushed q n first old new e before =
    e ∙ (ap (λ (xs : List ℕ). xs ++ q ∷ []) before ∙ (append_assoc first (repeated q n) (q ∷ [])
    ∙ ap (λ (xs : List ℕ). first ++ xs) (more q n ∙ ap (repeated q) (let z : suc n ≡ n + 1 = omega arith in z))))

module _ (p : Program) (found : List Reading) (here : found ≡ readings p) where
  pub first_is : first_from (λ q (r : Reading). pair_place p q (reader_of r)) 0 found ≡ first_from (pair_place p) 0 (readers p)
  first_is =
      ap (λ (rs : List Reading). first_from (λ q (r : Reading). pair_place p q (reader_of r)) 0 rs) here ∙ each_reading (pair_place p) 0 (readers p)

  pub many_is : length found ≡ length (readers p)
  many_is = ap (λ (rs : List Reading). length rs) here ∙ length-map (readers p) reading_of

  -- the reader of a reading
  record ReaderAt (q : ℕ) (r : Reading) : Type 0 where
    who : Reader
    there : slice_get (readers p) q ≡ Some who
    is : reading_of who ≡ r

  some_map : (o : Option Reader) (r : Reading) → option_map reading_of o ≡ Some r → (x : Reader) × (o ≡ Some x) × (reading_of x ≡ r)
  some_map None r e = absurd cc
  some_map (Some x) r e = (x, refl, same_Some (reading_of x) r e)

  reader_at : (q : ℕ) (r : Reading) → slice_get found q ≡ Some r → ReaderAt q r
  reader_at q r e =
      let x = some_map (slice_get (readers p) q) r (sym (slice_get-map reading_of (readers p) q) ∙ (ap (λ (rs : List Reading). slice_get rs q) (sym here) ∙ e)) in
      record { who = x.0; there = x.1; is = x.2 }

  -- its buffer is there
  pub low : (q : ℕ) (r : Reading) → slice_get found q ≡ Some r → r.buffer < length p.buffers
  low q r e =
      let x = reader_at q r e in
      let b = in_blocks (readers_from 0 p.seqs) (length p.buffers) q x.who x.there in
      let w = from_readers 0 p.seqs b.block b.at x.who b.stands in
      let same : b.block ≡ r.buffer = sym (ap (λ (x : Reader). x.buffer) w.is) ∙ ap (λ (r : Reading). r.buffer) x.is in
      subst (λ (n : ℕ). n < length p.buffers) same b.within

  module _ (s q : ℕ) (r : Reading) (e : slice_get found q ≡ Some r) where
    abbrev signals : ℕ → List ℕ
    signals n = repeated n (opening_signals p s n)

    reading_is : reading_of (reader p q) ≡ r
    reading_is = let x = reader_at q r e in ap (λ (o : Option Reader). reading_of (reader_or o)) x.there ∙ x.is

    count_is : (b : Bool) → nat_eq r.sequence s ≡ b → opening_signals p s q ≡ cond b (depth_of p r.buffer) 0
    count_is b h = (λ i. cond (nat_eq (reading_is i).sequence s) (depth_of p (reading_is i).buffer) 0) ∙ ap (λ (b : Bool). cond b (depth_of p r.buffer) 0) h

    next_is : blocks signals (suc q) ≡ blocks signals (q + 1)
    next_is = ap (blocks signals) (let z : suc q ≡ q + 1 = omega arith in z)

    -- the pairs before it, and it
    pub with_it : (xs ys : List ℕ) → r.sequence ≡ s → xs ≡ blocks signals q → ys ≡ xs ++ repeated q (depth_of p r.buffer) → ys ≡ blocks signals (q + 1)
    with_it xs ys same before h =
        h ∙ ((λ i. before i ++ repeated q (sym (count_is true (eq-eqb r.sequence s same)) i)) ∙ next_is)

    pub without_it : (xs : List ℕ) → r.sequence ≢ s → xs ≡ blocks signals q → xs ≡ blocks signals (q + 1)
    without_it xs other before =
        before ∙ (sym (append-nil (blocks signals q)) ∙ ((λ i. blocks signals q ++ repeated q (sym (count_is false (ne_eqb r.sequence s other)) i)) ∙ next_is))

  pub all_signalled : (s : ℕ) (xs : List ℕ) (n : ℕ) → n ≡ length found → xs ≡ blocks (λ q. repeated q (opening_signals p s q)) n → xs ≡ pairs_signalled p s
  all_signalled s xs n e before = before ∙ ap (blocks (λ q. repeated q (opening_signals p s q))) (e ∙ many_is)
