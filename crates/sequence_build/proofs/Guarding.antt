-- The lines that are put round instructions by the places of the pairs are those of the definition.
use Rattle.std.proofs.Common.{◌≡◌, ℕ, zero, suc, ◌+◌, Bool, true, false, ◌&&◌, not, cond, nat_eq, List, [], ◌∷◌, ◌++◌, length, map, take, drop, Some, refl, sym, ap, arith, ◌∙◌, eq-eqb}
use Rattle.std.specs.Prelude.{slice_get, replicate}
use Rattle.std.specs.List.{list_any, flat_map}
use Rattle.std.proofs.lemmas.Bool.{false≢true, eqb-true, ne_eqb}
use Rattle.std.proofs.lemmas.Option.{same_Some}
use Rattle.std.proofs.lemmas.List.{append_assoc}
use Rattle.std.proofs.Math.Seq.{take-append_seam, drop-append_seam}
use Rattle.sequence_build_laws.specs.declared.Instr.{Instr}
use Rattle.sequence_build_laws.specs.declared.Instr.TheVariants.{Suc0, Suc1, Pre0, Pre1}
use Rattle.sequence_build_laws.specs.declared.SeqCode.{SeqCode}
use Rattle.sequence_build_laws.specs.declared.Program.{Program}
use Rattle.sequence_build_laws.specs.Blocks.{repeated}
use Rattle.sequence_build_laws.specs.Instructions.{reads, Reader, readers}
use Rattle.sequence_build_laws.specs.InTurn.{Standing, in_turn_after}
use Rattle.sequence_build_laws.specs.Serial.{numbers_where, pairs_where}
use Rattle.sequence_build_laws.specs.Guarded.{is_first, is_last, fills, lines_at, guarded_loop, opening, guarded_codes}
use Rattle.sequence_build_laws.proofs.Lists.{get_past}
use Rattle.sequence_build.specs.declared.pairs.Pair.{Pair}
use Rattle.sequence_build.specs.declared.around.Moment.TheVariants.{FirstRead, LastRead, Write}
use Rattle.sequence_build.specs.Pairs.{plain_pairs}
use Rattle.sequence_build.specs.Around.{is_at, is_then, lines_with, loop_with, opening_with, codes_with}
use Rattle.sequence_build.proofs.Places.{first_is, last_is_at, first_from, last_from}
use Rattle.sequence_build.proofs.Pairing.{WritesOnce, OfPair, of_pair, written_is, readers_are}
use Rattle.sequence_build.proofs.Deepening.{reader_of}

numbers-map : {A B : Type 0} (p : B → Bool) (f : A → B) (n : ℕ) (xs : List A) → numbers_where p n (map f xs) ≡ numbers_where (λ x. p (f x)) n xs
numbers-map p f n [] = refl
numbers-map p f n (x ∷ xs) = ap (λ (l : List ℕ). cond (p (f x)) (n ∷ l) l) (numbers-map p f (suc n) xs)

numbers-same : {A : Type 0} (p q : A → Bool) (n : ℕ) (xs : List A) → ((i : ℕ) (x : A) → slice_get xs i ≡ Some x → p x ≡ q x) → numbers_where p n xs ≡ numbers_where q n xs
numbers-same p q n [] h = refl
numbers-same p q n (x ∷ xs) h =
    let here = h 0 x refl in let rest = numbers-same p q (suc n) xs (λ i y e. h (suc i) y e) in
    λ i. cond (here i) (n ∷ rest i) (rest i)

repeated-is : {A : Type 0} (x : A) (n : ℕ) → repeated x n ≡ replicate n x
repeated-is x zero = refl
repeated-is x (suc n) = ap (λ (l : List _). x ∷ l) (repeated-is x n)

-- an instruction of a loop, between those before it and those after it
abbrev standing : List Instr → Instr → List Instr → Standing Instr
standing before x after = record { before = before; it = x; after = after }

other_false : (s r : ℕ) → nat_eq s r ≡ false → nat_eq r s ≡ false
other_false s r e = ne_eqb r s (λ z. false≢true (sym e ∙ eq-eqb s r (sym z)))

module _ (p : Program) (once : WritesOnce p.seqs) where
  module _ (s : ℕ) (q : SeqCode) (there : slice_get p.seqs s ≡ Some q) where
    module _ (before : List Instr) (x : Instr) (after : List Instr) (whole : q.turn ≡ before ++ x ∷ after) where
      zero_before : 0 + length before ≡ length before
      zero_before = omega arith

      stands : slice_get q.turn (length before) ≡ Some x
      stands = (λ i. slice_get (whole i) (length before)) ∙ ap (slice_get (before ++ x ∷ after)) (let z : length before ≡ length before + 0 = omega arith in z) ∙ get_past before (x ∷ after) 0

      before_is : take (length before) q.turn ≡ before
      before_is = ap (take (length before)) whole ∙ take-append_seam before (x ∷ after)

      after_is : drop (suc (length before)) q.turn ≡ after
      after_is = ap (drop (suc (length before))) (whole ∙ sym (append_assoc before (x ∷ []) after)) ∙ drop_seam
        where
          many : length (before ++ x ∷ []) ≡ suc (length before)
          many = let z = Rattle.std.proofs.Common.length-append before (x ∷ []) in omega arith

          drop_seam : drop (suc (length before)) (before ++ x ∷ [] ++ after) ≡ after
          drop_seam = ap (λ (n : ℕ). drop n (before ++ x ∷ [] ++ after)) (sym many) ∙ drop-append_seam (before ++ x ∷ []) after

      first_same : (ps : List Reader) (k : ℕ) (y : Pair) → slice_get (plain_pairs p) k ≡ Some y → is_first ps s (standing before x after) (reader_of y) ≡ is_then FirstRead s (length before) y
      first_same ps k y d = by (nat_eq s y.reader) refl
        where
          o : OfPair p y
          o = of_pair p k y d

          by : (b : Bool) → nat_eq s y.reader ≡ b → is_first ps s (standing before x after) (reader_of y) ≡ is_then FirstRead s (length before) y
          by false e =
              (λ i. (e i && reads y.buffer x) && not (list_any (λ z. e i && reads y.buffer z) before))
              ∙ sym (λ i. other_false s y.reader e i && nat_eq y.first (length before))
          by true e =
              let own = eqb-true s y.reader e in
              let code : o.code ≡ q = same_Some o.code q (sym o.is_code ∙ ap (slice_get p.seqs) (sym own) ∙ there) in
              (λ i. (e i && reads y.buffer x) && not (list_any (λ z. e i && reads y.buffer z) (sym before_is i)))
              ∙ first_is (reads y.buffer) 0 (length before) q.turn x stands ∙ ap (nat_eq (first_from (reads y.buffer) 0 q.turn)) zero_before
              ∙ (λ i. nat_eq (first_from (reads y.buffer) 0 (sym code i).turn) (length before))
              ∙ (λ i. (sym (eq-eqb y.reader s (sym own)) i) && nat_eq (sym o.first i) (length before))

      last_same : (ps : List Reader) (k : ℕ) (y : Pair) → slice_get (plain_pairs p) k ≡ Some y → is_last ps s (standing before x after) (reader_of y) ≡ is_then LastRead s (length before) y
      last_same ps k y d = by (nat_eq s y.reader) refl
        where
          o : OfPair p y
          o = of_pair p k y d

          by : (b : Bool) → nat_eq s y.reader ≡ b → is_last ps s (standing before x after) (reader_of y) ≡ is_then LastRead s (length before) y
          by false e =
              (λ i. (e i && reads y.buffer x) && not (list_any (λ z. e i && reads y.buffer z) after))
              ∙ sym (λ i. other_false s y.reader e i && nat_eq y.last (length before))
          by true e =
              let own = eqb-true s y.reader e in
              let code : o.code ≡ q = same_Some o.code q (sym o.is_code ∙ ap (slice_get p.seqs) (sym own) ∙ there) in
              (λ i. (e i && reads y.buffer x) && not (list_any (λ z. e i && reads y.buffer z) (sym after_is i)))
              ∙ last_is_at (reads y.buffer) 0 0 (length before) q.turn x stands
              ((λ i. list_any (reads y.buffer) (sym code i).turn) ∙ o.reads_it) ∙ ap (nat_eq (last_from (reads y.buffer) 0 0 q.turn)) zero_before
              ∙ (λ i. nat_eq (last_from (reads y.buffer) 0 0 (sym code i).turn) (length before))
              ∙ (λ i. (sym (eq-eqb y.reader s (sym own)) i) && nat_eq (sym o.last i) (length before))

      write_same : (ps : List Reader) (k : ℕ) (y : Pair) → slice_get (plain_pairs p) k ≡ Some y → fills ps s (standing before x after) (reader_of y) ≡ is_then Write s (length before) y
      write_same ps k y d =
          let o = of_pair p k y d in
          written_is p once y.buffer s (length before) q x there stands ∙ ap (λ w. is_at w s (length before)) (sym o.write)

      numbers_same : (test : Reader → Bool) (then : Pair → Bool) → ((k : ℕ) (y : Pair) → slice_get (plain_pairs p) k ≡ Some y → test (reader_of y) ≡ then y)
          → pairs_where (readers p) test ≡ numbers_where then 0 (plain_pairs p)
      numbers_same test then h =
          ap (λ (l : List Reader). numbers_where test 0 l) (sym (readers_are p once))
          ∙ numbers-map test reader_of 0 (plain_pairs p)
          ∙ numbers-same (λ y. test (reader_of y)) then 0 (plain_pairs p) h

      abbrev first_numbers : List ℕ
      first_numbers = numbers_where (is_then FirstRead s (length before)) 0 (plain_pairs p)

      abbrev write_numbers : List ℕ
      write_numbers = numbers_where (is_then Write s (length before)) 0 (plain_pairs p)

      lines_same : lines_at (readers p) s (standing before x after) ≡ lines_with (plain_pairs p) s (length before) x
      lines_same =
          let first = numbers_same (is_first (readers p) s (standing before x after)) (is_then FirstRead s (length before)) (first_same (readers p)) in
          let last = numbers_same (is_last (readers p) s (standing before x after)) (is_then LastRead s (length before)) (last_same (readers p)) in
          let write = numbers_same (fills (readers p) s (standing before x after)) (is_then Write s (length before)) (write_same (readers p)) in
          (λ i. map Suc1 (first i) ++ (map Suc0 (write i) ++ (x ∷ (map Pre0 (last i) ++ map Pre1 (write i)))))
          ∙ sym (append_assoc (map Suc1 (first_numbers)) (map Suc0 (write_numbers)) (x ∷ (map Pre0 (numbers_where (is_then LastRead s (length before)) 0 (plain_pairs p)) ++ map Pre1 write_numbers)))

    loop_from : (before xs : List Instr) → q.turn ≡ before ++ xs → flat_map (lines_at (readers p) s) (in_turn_after before xs) ≡ loop_with (plain_pairs p) s (length before) xs
    loop_from before [] e = refl
    loop_from before (x ∷ xs) e =
        let here = lines_same before x xs e in
        let many : length (before ++ x ∷ []) ≡ suc (length before) = (let z = Rattle.std.proofs.Common.length-append before (x ∷ []) in omega arith) in
        let rest = loop_from (before ++ x ∷ []) xs (e ∙ sym (append_assoc before (x ∷ []) xs)) ∙ ap (λ (n : ℕ). loop_with (plain_pairs p) s n xs) many in
        λ i. here i ++ rest i

    pub loop_same : guarded_loop (readers p) s q.turn ≡ loop_with (plain_pairs p) s 0 q.turn
    loop_same = loop_from [] q.turn refl

    pub opening_same : (depth : ℕ) → opening (readers p) s depth ≡ opening_with depth s (plain_pairs p)
    opening_same depth =
        ap (λ (l : List Reader). flat_map (λ n. repeated (Pre0 n) depth) (numbers_where (λ (r : Reader). nat_eq r.sequence s) 0 l)) (sym (readers_are p once))
        ∙ ap (flat_map (λ n. repeated (Pre0 n) depth)) (numbers-map (λ (r : Reader). nat_eq r.sequence s) reader_of 0 (plain_pairs p))
        ∙ (λ i. flat_map (λ n. repeated-is (Pre0 n) depth i) (numbers_where (λ (y : Pair). nat_eq y.reader s) 0 (plain_pairs p)))

  codes_from : (depth s : ℕ) (qs : List SeqCode) → ((i : ℕ) (q : SeqCode) → slice_get qs i ≡ Some q → slice_get p.seqs (s + i) ≡ Some q)
      → guarded_codes depth (readers p) s qs ≡ codes_with depth (plain_pairs p) s qs
  codes_from depth s [] h = refl
  codes_from depth s (q ∷ qs) h =
      let there : slice_get p.seqs s ≡ Some q = ap (slice_get p.seqs) (let z : s ≡ s + 0 = omega arith in z) ∙ h 0 q refl in
      let loop = loop_same s q there in
      let front = opening_same s q there depth in
      let rest = codes_from depth (suc s) qs (λ i r e. ap (slice_get p.seqs) (let z : suc s + i ≡ s + suc i = omega arith in z) ∙ h (suc i) r e) in
      λ i. record { seq = q.seq; prologue = front i; turn = loop i } ∷ rest i

  pub codes_same : (depth : ℕ) → guarded_codes depth (readers p) 0 p.seqs ≡ codes_with depth (plain_pairs p) 0 p.seqs
  codes_same depth = codes_from depth 0 p.seqs (λ i q e. ap (slice_get p.seqs) (let z : 0 + i ≡ i = omega arith in z) ∙ e)
