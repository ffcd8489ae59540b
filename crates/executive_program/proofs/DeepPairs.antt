-- In a well-formed program the looks of one reaction are two for each pair of a buffer of several places, and these pairs are those that the prologues open several times.
use Rattle.std.proofs.Common.{
  ◌≡◌,
  ℕ,
  zero,
  suc,
  ◌+◌,
  ◌*◌,
  ◌<◌,
  ◌≤◌,
  ◌⊎◌,
  inl,
  inr,
  Bool,
  true,
  false,
  cond,
  nat_eq,
  nat_lt,
  List,
  [],
  ◌∷◌,
  ◌++◌,
  length,
  Option,
  Some,
  None,
  refl,
  sym,
  ap,
  subst,
  arith,
  ◌∙◌,
  zero-add,
}
use Rattle.std.specs.Prelude.{slice_get}
use Rattle.std.specs.List.{sum_by}
use Rattle.std.proofs.lemmas.Bool.{cases_eq, cases_lt, eq-eqb, ne_eqb, lt-ltb}
use Rattle.std.proofs.lemmas.List.Sums.{sum_by-cons}
use Rattle.std.proofs.lemmas.Option.{slice_get_past, slice_get-get_or}
use Rattle.archi_graph.specs.declared.medium.Seq.{Seq}
use Rattle.flat_graph.specs.Graph.{Graph}
use Rattle.interleavings.specs.Owners.{sum_below}
use Rattle.executive_program.specs.declared.program.Instr.{Instr}
use Rattle.executive_program.specs.declared.program.Instr.TheVariants.{Suc0, Suc1, Pre0, Pre1, Call, Send, Recv, Sync}
use Rattle.executive_program.specs.declared.program.SeqCode.{SeqCode}
use Rattle.executive_program.specs.declared.program.Program.{Program}
use Rattle.executive_program.specs.Blocks.{blocks, repeated}
use Rattle.executive_program.specs.Instructions.{turn, turn_of, prologue, prologue_of, readers, Reader, depth_of, depth_at, pair_depth}
use Rattle.executive_program.specs.Places.{takes_empty, takes_full, reader, reader_or, pair, places, opening_signals, signals_of}
use Rattle.executive_program.specs.Sizes.{looks_at, looks_of, looks_in, is_last, opened_after, prologue_looks, turn_looks, deep_pairs}
use Rattle.executive_program.specs.WellFormed.{IsOrder, IsOnly, NamesIn, Stands, writer_of}
use Rattle.interleavings.proofs.Sums.{same_below, none_below, both_below}
use Rattle.executive_program.proofs.Passing.{empty_taken, full_taken}
use Rattle.executive_program.proofs.Sums.{swapped, picked, summed, none_passes, one_passes}
use Rattle.executive_program.proofs.MicroCounts.{by_place}
use Rattle.executive_program.proofs.Formed.{formed_has_places, pairs_are_readers}

-- one where there are two or more
abbrev several : ℕ → ℕ
several k = cond (nat_lt 1 k) 1 0

-- the pairs of which these instructions signal the empty semaphore are below n
abbrev OpensBelow : ℕ → List Instr → Type 0
OpensBelow n [] = Unit {0}
OpensBelow n (Pre0 q ∷ xs) = (q < n) × OpensBelow n xs
OpensBelow n (_ ∷ xs) = ⊥

abbrev LastBelow : ℕ → Option ℕ → Type 0
LastBelow n None = Unit {0}
LastBelow n (Some q) = q < n

not_last : (n : ℕ) (last : Option ℕ) → LastBelow n last → is_last n last ≡ false
not_last n None h = refl
not_last n (Some q) h = ne_eqb n q (λ e. omega arith)

is_same : (q : ℕ) → is_last q (Some q) ≡ true
is_same q = eq-eqb q q refl

-- a pair that was counted is not counted again
counted : (n k : ℕ) → opened_after (Some n) true (repeated (Pre0 n) k) ≡ 0
counted n zero = refl
counted n (suc k) = rw (is_same n) (let e = counted n k in omega arith)

-- a new pair, signalled k times
opened_new : (n k : ℕ) (last : Option ℕ) (again : Bool) → LastBelow n last → opened_after last again (repeated (Pre0 n) k) ≡ several k
opened_new n zero last again h = refl
opened_new n (suc zero) last again h = rw (not_last n last h) refl
opened_new n (suc (suc k)) last again h = rw (not_last n last h, is_same n) (let e = counted n k in let t : several (suc (suc k)) ≡ 1 = rw (lt-ltb 1 (suc (suc k)) (omega arith)) refl in omega arith)

opened_more : (n k : ℕ) (last : Option ℕ) (again : Bool) (xs : List Instr) → LastBelow n last → OpensBelow n xs
    → opened_after last again (xs ++ repeated (Pre0 n) k) ≡ opened_after last again xs + several k
opened_more n k last again [] l h = opened_new n k last again l ∙ sym (zero-add (several k))
opened_more n k last again (Pre0 q ∷ xs) l h = by (opened_more n k last true xs l h.1) (opened_more n k (Some q) false xs h.0 h.1) (is_last q last) again
  where
    by : opened_after last true (xs ++ repeated (Pre0 n) k) ≡ opened_after last true xs + several k
        → opened_after (Some q) false (xs ++ repeated (Pre0 n) k) ≡ opened_after (Some q) false xs + several k
        → (b c : Bool) → cond b (cond c 0 1 + opened_after last true (xs ++ repeated (Pre0 n) k))
        (opened_after (Some q) false (xs ++ repeated (Pre0 n) k))
        ≡ cond b (cond c 0 1 + opened_after last true xs) (opened_after (Some q) false xs) + several k
    by e f true true = omega arith
    by e f true false = omega arith
    by e f false c = f
opened_more n k last again (Suc0 q ∷ xs) l h = absurd h
opened_more n k last again (Suc1 q ∷ xs) l h = absurd h
opened_more n k last again (Pre1 q ∷ xs) l h = absurd h
opened_more n k last again (Call v ins outs ∷ xs) l h = absurd h
opened_more n k last again (Send b q ∷ xs) l h = absurd h
opened_more n k last again (Recv b q ∷ xs) l h = absurd h
opened_more n k last again (Sync q r ∷ xs) l h = absurd h

below_repeated : (n m k : ℕ) → m < n → OpensBelow n (repeated (Pre0 m) k)
below_repeated n m zero l = tt
below_repeated n m (suc k) l = (l, below_repeated n m k l)

below_more : (n : ℕ) (xs : List Instr) → OpensBelow n xs → OpensBelow (suc n) xs
below_more n [] h = tt
below_more n (Pre0 q ∷ xs) h = (omega arith, below_more n xs h.1)
below_more n (Suc0 q ∷ xs) h = absurd h
below_more n (Suc1 q ∷ xs) h = absurd h
below_more n (Pre1 q ∷ xs) h = absurd h
below_more n (Call v ins outs ∷ xs) h = absurd h
below_more n (Send b q ∷ xs) h = absurd h
below_more n (Recv b q ∷ xs) h = absurd h
below_more n (Sync q r ∷ xs) h = absurd h

below_both : (n : ℕ) (xs ys : List Instr) → OpensBelow n xs → OpensBelow n ys → OpensBelow n (xs ++ ys)
below_both n [] ys h k = k
below_both n (Pre0 q ∷ xs) ys h k = (h.0, below_both n xs ys h.1 k)
below_both n (Suc0 q ∷ xs) ys h k = absurd h
below_both n (Suc1 q ∷ xs) ys h k = absurd h
below_both n (Pre1 q ∷ xs) ys h k = absurd h
below_both n (Call v ins outs ∷ xs) ys h k = absurd h
below_both n (Send b q ∷ xs) ys h k = absurd h
below_both n (Recv b q ∷ xs) ys h k = absurd h
below_both n (Sync q r ∷ xs) ys h k = absurd h

module _ (times : ℕ → ℕ) where
  abbrev signals : ℕ → List Instr
  signals q = repeated (Pre0 q) (times q)

  signals_below : (n : ℕ) → OpensBelow n (blocks signals n)
  signals_below zero = tt
  signals_below (suc n) = below_both (suc n) (blocks signals n) (signals n) (below_more n (blocks signals n) (signals_below n)) (below_repeated (suc n) n (times n) (omega arith))

  opened_all : (n : ℕ) → opened_after None false (blocks signals n) ≡ sum_below (λ q. several (times q)) n
  opened_all zero = refl
  opened_all (suc n) = opened_more n (times n) None false (blocks signals n) tt (signals_below n) ∙ ap (λ (k : ℕ). k + several (times n)) (opened_all n)

-- signals of empty semaphores look at nothing
no_looks : (d : ℕ → ℕ) (n : ℕ) (xs : List Instr) → OpensBelow n xs → looks_in d xs ≡ 0
no_looks d n [] h = refl
no_looks d n (Pre0 q ∷ xs) h = sum_by-cons (looks_of d) (Pre0 q) xs ∙ (let e = no_looks d n xs h.1 in omega arith)
no_looks d n (Suc0 q ∷ xs) h = absurd h
no_looks d n (Suc1 q ∷ xs) h = absurd h
no_looks d n (Pre1 q ∷ xs) h = absurd h
no_looks d n (Call v ins outs ∷ xs) h = absurd h
no_looks d n (Send b q ∷ xs) h = absurd h
no_looks d n (Recv b q ∷ xs) h = absurd h
no_looks d n (Sync q r ∷ xs) h = absurd h

module _ (p : Program) (g : Graph) (seqs : List Seq) (media : ℕ) (order : List ℕ) (formed : IsOrder p g seqs media order) where
  abbrev P : ℕ
  P = length p.pairs

  abbrev S : ℕ
  S = length p.seqs

  -- the looks of a take of pair q
  abbrev D : ℕ → ℕ
  D q = looks_at (pair_depth p q)

  -- a sequence in whose loop something stands is there
  there : (s a : ℕ) (x : Instr) → Stands p s a x → s < S
  there s a x h = by (cases_lt s S)
    where
      by : (s < S) ⊎ (S ≤ s) → s < S
      by (inl l) = l
      by (inr l) = absurd (let e = ap turn_of (slice_get_past p.seqs s l) in nothing (subst (λ (xs : List Instr). slice_get xs a ≡ Some x) e h))
        where
          nothing : slice_get [] a ≡ Some x → ⊥
          nothing e = absurd (cc)

  -- the looks of an instruction, by pair
  by_pair : (x : Instr) → NamesIn p order (places p) (λ b. record { vertex = 0; port = 0 }) g x
      → looks_of (pair_depth p) x ≡ sum_below (λ q. cond (takes_empty q x) (D q) 0) P + sum_below (λ q. cond (takes_full q x) (D q) 0) P
  by_pair (Suc0 r) n = let e = picked D P r n in let z = none_below (λ q. 0) P (λ q l. refl) in omega arith
  by_pair (Suc1 r) n = let e = picked D P r n in let z = none_below (λ q. 0) P (λ q l. refl) in omega arith
  by_pair (Pre0 r) n = let z = none_below (λ q. 0) P (λ q l. refl) in omega arith
  by_pair (Pre1 r) n = let z = none_below (λ q. 0) P (λ q l. refl) in omega arith
  by_pair (Call v ins outs) n = let z = none_below (λ q. 0) P (λ q l. refl) in omega arith
  by_pair (Send b o) n = let z = none_below (λ q. 0) P (λ q l. refl) in omega arith
  by_pair (Recv b o) n = let z = none_below (λ q. 0) P (λ q l. refl) in omega arith
  by_pair (Sync o r) n = let z = none_below (λ q. 0) P (λ q l. refl) in omega arith

  list_by_pair : (xs : List Instr) → ((a : ℕ) (x : Instr) → slice_get xs a ≡ Some x → NamesIn p order (places p) (λ b. record { vertex = 0; port = 0 }) g x)
      → looks_in (pair_depth p) xs ≡ sum_by (λ x. sum_below (λ q. cond (takes_empty q x) (D q) 0) P) xs + sum_by (λ x. sum_below (λ q. cond (takes_full q x) (D q) 0) P) xs
  list_by_pair [] h = refl
  list_by_pair (x ∷ xs) h =
      let a = sum_by-cons (looks_of (pair_depth p)) x xs in
      let b = sum_by-cons (λ y. sum_below (λ q. cond (takes_empty q y) (D q) 0) P) x xs in
      let c = sum_by-cons (λ y. sum_below (λ q. cond (takes_full q y) (D q) 0) P) x xs in
      let d = list_by_pair xs (λ i y. h (suc i) y) in
      let e = by_pair x (h 0 x refl) in omega arith

  -- a pair's take stands once in the loop of its sequence, and in no other
  module _ (takes : ℕ → Instr → Bool) (take : ℕ → Instr) (takes_is : (q : ℕ) (x : Instr) → takes q x ≡ true → x ≡ take q) (is_take : (q : ℕ) → takes q (take q) ≡ true) where
    once : (q t a s : ℕ) → IsOnly p t a (take q) → sum_by (λ x. cond (takes q x) (D q) 0) (turn p s) ≡ cond (nat_eq t s) (D q) 0
    once q t a s o = by (cases_eq t s)
      where
        by : (t ≡ s) ⊎ (t ≡ s → ⊥) → sum_by (λ x. cond (takes q x) (D q) 0) (turn p s) ≡ cond (nat_eq t s) (D q) 0
        by (inl e) = rw (eq-eqb t s e) (one_passes (takes q) (D q) (turn p s) a (take q) (subst (λ (i : ℕ). Stands p i a (take q)) e o.stands) (is_take q)
            (λ b y k u. (o.only s b (k ∙ ap (λ (x : Instr). Some x) (takes_is q y u))).1))
        by (inr n) = rw (ne_eqb t s n) (none_passes (takes q) (D q) (turn p s) (λ b y k u. n (sym (o.only s b (k ∙ ap (λ (x : Instr). Some x) (takes_is q y u))).0)))

    -- over all sequences each pair counts once
    all_once : (home at : ℕ → ℕ) → ((q : ℕ) → q < P → IsOnly p (home q) (at q) (take q)) → sum_below (λ s. sum_by (λ x. sum_below (λ q. cond (takes q x) (D q) 0) P) (turn p s)) S ≡ sum_below D P
    all_once home at only =
        same_below (λ s. sum_by (λ x. sum_below (λ q. cond (takes q x) (D q) 0) P) (turn p s)) (λ s. sum_below (λ q. cond (nat_eq (home q) s) (D q) 0) P) S
        (λ s l. summed (λ q x. cond (takes q x) (D q) 0) P (turn p s)
        ∙ same_below (λ q. sum_by (λ x. cond (takes q x) (D q) 0) (turn p s)) (λ q. cond (nat_eq (home q) s) (D q) 0) P
        (λ q k. once q (home q) (at q) s (only q k)))
        ∙ swapped (λ s q. cond (nat_eq (home q) s) (D q) 0) S P
        ∙ same_below (λ q. sum_below (λ s. cond (nat_eq (home q) s) (D q) 0) S) D P (λ q k. picked (λ s. D q) S (home q) (there (home q) (at q) (take q) (only q k).stands))

  pub looks_are : turn_looks p ≡ sum_below D P + sum_below D P
  looks_are =
      sym (by_place (λ (o : Option SeqCode). looks_in (pair_depth p) (turn_of o)) (λ (q : SeqCode). looks_in (pair_depth p) q.turn) (λ q. refl) p.seqs)
      ∙ same_below (λ s. looks_in (pair_depth p) (turn p s)) (λ s. sum_by E (turn p s) + sum_by F (turn p s)) S (λ s l. list_by_pair (turn p s) (λ a x h. formed.named s a x h))
      ∙ both_below (λ s. sum_by E (turn p s)) (λ s. sum_by F (turn p s)) S
      ∙ (λ i. empties i + fulls i)
    where
      E : Instr → ℕ
      E x = sum_below (λ q. cond (takes_empty q x) (D q) 0) P

      F : Instr → ℕ
      F x = sum_below (λ q. cond (takes_full q x) (D q) 0) P

      empties : sum_below (λ s. sum_by E (turn p s)) S ≡ sum_below D P
      empties = all_once takes_empty (λ q. Suc0 q) empty_taken (λ q. eq-eqb q q refl) (λ q. writer_of p order (places p) q) (λ q. (pair p q).take_empty) (λ q l. (formed.pairs q l).take_empty)

      fulls : sum_below (λ s. sum_by F (turn p s)) S ≡ sum_below D P
      fulls = all_once takes_full (λ q. Suc1 q) full_taken (λ q. eq-eqb q q refl) (λ q. (pair p q).reader) (λ q. (pair p q).take_full) (λ q l. (formed.pairs q l).take_full)

  readers_many : length (readers p) ≡ P
  readers_many = sym (pairs_are_readers p g seqs media order formed)

  -- the places of a pair's buffer
  depth_is : (q : ℕ) → q < P → pair_depth p q ≡ depth_of p (reader p q).buffer
  depth_is q l = by (slice_get (readers p) q) (slice_get-get_or (readers p) q (record { buffer = 0; sequence = 0 }) (let e = readers_many in omega arith))
    where
      by : (o : Option Reader) {r : Reader} → o ≡ Some r → depth_at p o ≡ depth_of p (reader_or o).buffer
      by None e = absurd (cc)
      by (Some r) e = refl

  opens : (q s : ℕ) → q < P → several (opening_signals p s q) ≡ cond (nat_eq (reader p q).sequence s) (D q) 0
  opens q s l = by (nat_eq (reader p q).sequence s)
    where
      some : 1 ≤ depth_of p (reader p q).buffer
      some = formed_has_places p g seqs media (order, formed) (reader p q).buffer

      several_is : (k : ℕ) → 1 ≤ k → several k ≡ looks_at k
      several_is k h = pick (cases_eq k 1)
        where
          pick : (k ≡ 1) ⊎ (k ≡ 1 → ⊥) → several k ≡ looks_at k
          pick (inl e) = rw e refl
          pick (inr n) = rw (lt-ltb 1 k (omega arith), ne_eqb k 1 n) refl

      by : (b : Bool) → several (cond b (depth_of p (reader p q).buffer) 0) ≡ cond b (D q) 0
      by true = several_is (depth_of p (reader p q).buffer) some ∙ ap looks_at (sym (depth_is q l))
      by false = refl

  prologue_is : (s : ℕ) → s < S → prologue p s ≡ blocks (signals_of p s) P
  prologue_is s l = formed.prologues s l ∙ ap (λ (n : ℕ). blocks (signals_of p s) n) readers_many

  pub deep_are : deep_pairs p ≡ sum_below D P
  deep_are =
      sym (by_place (λ (o : Option SeqCode). opened_after None false (prologue_of o)) (λ (q : SeqCode). opened_after None false q.prologue) (λ q. refl) p.seqs)
      ∙ same_below (λ s. opened_after None false (prologue p s)) (λ s. sum_below (λ q. cond (nat_eq (reader p q).sequence s) (D q) 0) P) S
      (λ s l. ap (opened_after None false) (prologue_is s l) ∙ opened_all (opening_signals p s) P
      ∙ same_below (λ q. several (opening_signals p s q)) (λ q. cond (nat_eq (reader p q).sequence s) (D q) 0) P (λ q k. opens q s k))
      ∙ swapped (λ s q. cond (nat_eq (reader p q).sequence s) (D q) 0) S P
      ∙ same_below (λ q. sum_below (λ s. cond (nat_eq (reader p q).sequence s) (D q) 0) S) D P
      (λ q k. picked (λ s. D q) S (reader p q).sequence (there (pair p q).reader (pair p q).take_full (Suc1 q) (formed.pairs q k).take_full.stands))

  -- In a well-formed program the prologues look at nothing, and the loops twice for each deep pair.
  pub looks_in_prologues : prologue_looks p ≡ 0
  looks_in_prologues =
      sym (by_place (λ (o : Option SeqCode). looks_in (pair_depth p) (prologue_of o)) (λ (q : SeqCode). looks_in (pair_depth p) q.prologue) (λ q. refl) p.seqs)
      ∙ none_below (λ s. looks_in (pair_depth p) (prologue p s)) S
      (λ s l. ap (looks_in (pair_depth p)) (prologue_is s l)
      ∙ no_looks (pair_depth p) P (blocks (signals_of p s) P) (signals_below (opening_signals p s) P))

  pub looks_in_turns : turn_looks p ≡ 2 * deep_pairs p
  looks_in_turns = let a = looks_are in let b = deep_are in omega arith
