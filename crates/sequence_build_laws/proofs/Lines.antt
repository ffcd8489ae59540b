-- What stands in a block: the semaphore lines before its instruction, the instruction, and those after it.
use Rattle.std.proofs.Common.{◌≡◌, ℕ, zero, suc, ◌+◌, ◌<◌, ◌⊎◌, Bool, true, false, List, [], ◌∷◌, ◌++◌, length, map, take, Some, refl, sym, ap, subst, inl, inr, arith, ◌∙◌}
use Rattle.std.specs.Prelude.{slice_get}
use Rattle.std.specs.List.{flat_map}
use Rattle.std.proofs.lemmas.Option.{same_Some, slice_get_within}
use Rattle.std.proofs.lemmas.List.{length-map}
use Rattle.schedule.specs.declared.Seq.{Seq}
use Rattle.executive_program.specs.declared.program.Instr.{Instr}
use Rattle.executive_program.specs.declared.program.Instr.TheVariants.{Suc0, Suc1, Pre0, Pre1}
use Rattle.executive_program.specs.declared.program.Program.{Program}
use Rattle.executive_program.specs.Instructions.{Reader}
use Rattle.executive_program.specs.WellFormed.{Stands, place_in}
use Rattle.sequence_build_laws.specs.InTurn.{Standing, in_turn}
use Rattle.sequence_build_laws.specs.Serial.{Step, step, projection, codes, reads_first, reads_last, is_filled, pairs_where, block, steps_at}
use Rattle.sequence_build_laws.proofs.Lists.{
  get_past,
  get_before,
  Past,
  from_append,
  map_at,
  from_map,
  starts,
  in_flat,
  flat_at,
  starts_rise,
  starts_order,
  tally,
  number_at,
  from_numbers,
  FromTurn,
  from_turn,
}
use Rattle.sequence_build_laws.proofs.Loops.{order, Found, found, put, same_place, earlier}

-- no semaphore line
abbrev pub is_plain : Instr → Bool
is_plain (Suc0 q) = false
is_plain (Suc1 q) = false
is_plain (Pre0 q) = false
is_plain (Pre1 q) = false
is_plain _ = true

module _ (pairs : List Reader) (v : Standing Step) where
  abbrev numbers : (Reader → Bool) → List ℕ
  numbers test = pairs_where pairs test

  abbrev rank : (Reader → Bool) → ℕ → ℕ
  rank test q = tally test (take q pairs)

  -- the places of the lines of pair q
  abbrev pub full_taken : ℕ → ℕ
  full_taken q = rank (reads_first v) q

  abbrev pub empty_taken : ℕ → ℕ
  empty_taken q = length (numbers (reads_first v)) + rank (is_filled v) q

  abbrev pub middle : ℕ
  middle = length (numbers (reads_first v)) + length (numbers (is_filled v))

  abbrev pub empty_signalled : ℕ → ℕ
  empty_signalled q = suc middle + rank (reads_last v) q

  abbrev pub full_signalled : ℕ → ℕ
  full_signalled q = suc middle + (length (numbers (reads_last v)) + rank (is_filled v) q)

  -- pair q passes
  pub record Pair (test : Reader → Bool) (q : ℕ) : Type 0 where
    pub reader : Reader
    pub stands : slice_get pairs q ≡ Some reader
    pub passes : test reader ≡ true

  -- what instruction x at place k of the block is
  pub data Line (k : ℕ) (x : Instr) : Type 0 where
    takes_full : (q : ℕ) → Pair (reads_first v) q → x ≡ Suc1 q → k ≡ full_taken q → k < middle → Line k x
    takes_empty : (q : ℕ) → Pair (is_filled v) q → x ≡ Suc0 q → k ≡ empty_taken q → k < middle → Line k x
    core : x ≡ v.it.instr → k ≡ middle → Line k x
    signals_empty : (q : ℕ) → Pair (reads_last v) q → x ≡ Pre0 q → k ≡ empty_signalled q → middle < k → Line k x
    signals_full : (q : ℕ) → Pair (is_filled v) q → x ≡ Pre1 q → k ≡ full_signalled q → middle < k → Line k x

  record Listed (test : Reader → Bool) (f : ℕ → Instr) (j : ℕ) (x : Instr) : Type 0 where
    number : ℕ
    pair : Pair test number
    is : x ≡ f number
    place : j ≡ rank test number
    inner : j < length (numbers test)

  listed : (test : Reader → Bool) (f : ℕ → Instr) (j : ℕ) (x : Instr) → slice_get (map f (numbers test)) j ≡ Some x → Listed test f j x
  listed test f j x e =
      let m = from_map f (numbers test) j x e in
      let n = from_numbers test 0 pairs j m.it m.stands in
      let here : n.at ≡ m.it = (let z = n.is in omega arith) in
      record {
        number = m.it;
        pair = record { reader = n.it; stands = ap (slice_get pairs) (sym here) ∙ n.stands; passes = n.passes };
        is = sym m.is;
        place = n.rank ∙ ap (λ (k : ℕ). rank test k) here;
        inner = slice_get_within (numbers test) j m.it m.stands;
      }

  list_it : (test : Reader → Bool) (f : ℕ → Instr) (q : ℕ) → Pair test q → slice_get (map f (numbers test)) (rank test q) ≡ Some (f q)
  list_it test f q p = let z : 0 + q ≡ q = omega arith in map_at f (numbers test) (rank test q) q (number_at test 0 pairs q p.reader p.stands p.passes ∙ ap (λ (k : ℕ). Some k) z)

  list_length : (test : Reader → Bool) (f : ℕ → Instr) → length (map f (numbers test)) ≡ length (numbers test)
  list_length test f = length-map (numbers test) f

  -- after the instruction
  signals : List Instr
  signals = map Pre0 (numbers (reads_last v)) ++ map Pre1 (numbers (is_filled v))

  pub line : (k : ℕ) (x : Instr) → slice_get (block pairs v) k ≡ Some x → Line k x
  line k x e = first (from_append (map Suc1 (numbers (reads_first v))) _ k x e)
    where
      last : (i : ℕ) → k ≡ suc middle + i → (slice_get (map Pre0 (numbers (reads_last v))) i ≡ Some x) ⊎ Past (map Pre0 (numbers (reads_last v))) (map Pre1 (numbers (is_filled v))) i x → Line k x
      last i is (inl h) = let r = listed (reads_last v) Pre0 i x h in signals_empty r.number r.pair r.is (let z = r.place in omega arith) (omega arith)
      last i is (inr h) = let r = listed (is_filled v) Pre1 h.at x h.stands in
          signals_full r.number r.pair r.is (let z = r.place in let y = h.is in let n = list_length (reads_last v) Pre0 in omega arith) (omega arith)

      third : (i : ℕ) → k ≡ middle + i → slice_get (v.it.instr ∷ (map Pre0 (numbers (reads_last v)) ++ map Pre1 (numbers (is_filled v)))) i ≡ Some x → Line k x
      third zero is h = core (sym (same_Some v.it.instr x h)) (omega arith)
      third (suc i) is h = last i (omega arith) (from_append (map Pre0 (numbers (reads_last v))) (map Pre1 (numbers (is_filled v))) i x h)

      second : (i : ℕ) → k ≡ length (numbers (reads_first v)) + i
          → (slice_get (map Suc0 (numbers (is_filled v))) i ≡ Some x)
          ⊎ Past (map Suc0 (numbers (is_filled v))) (v.it.instr ∷ (map Pre0 (numbers (reads_last v)) ++ map Pre1 (numbers (is_filled v)))) i x → Line k x
      second i is (inl h) = let r = listed (is_filled v) Suc0 i x h in let b = r.inner in takes_empty r.number r.pair r.is (let z = r.place in omega arith) (omega arith)
      second i is (inr h) = third h.at (let z = h.is in let n = list_length (is_filled v) Suc0 in omega arith) h.stands

      first : (slice_get (map Suc1 (numbers (reads_first v))) k ≡ Some x)
          ⊎ Past (map Suc1 (numbers (reads_first v)))
          (map Suc0 (numbers (is_filled v)) ++ (v.it.instr ∷ (map Pre0 (numbers (reads_last v)) ++ map Pre1 (numbers (is_filled v))))) k x → Line k x
      first (inl h) = let r = listed (reads_first v) Suc1 k x h in let b = r.inner in takes_full r.number r.pair r.is r.place (omega arith)
      first (inr h) = second h.at (let z = h.is in let n = list_length (reads_first v) Suc1 in omega arith)
          (from_append (map Suc0 (numbers (is_filled v))) (v.it.instr ∷ (map Pre0 (numbers (reads_last v)) ++ map Pre1 (numbers (is_filled v)))) h.at x h.stands)

  -- and each line is there
  pub full_taken_there : (q : ℕ) → Pair (reads_first v) q → slice_get (block pairs v) (full_taken q) ≡ Some (Suc1 q)
  full_taken_there q p = get_before (map Suc1 (numbers (reads_first v))) _ (full_taken q) (Suc1 q) (list_it (reads_first v) Suc1 q p)

  rank_low : (test : Reader → Bool) (q : ℕ) → Pair test q → rank test q < length (numbers test)
  rank_low test q p = let z = slice_get_within (map Suc0 (numbers test)) (rank test q) (Suc0 q) (list_it test Suc0 q p) in let m = list_length test Suc0 in omega arith

  pub full_before_middle : (q : ℕ) → Pair (reads_first v) q → full_taken q < middle
  full_before_middle q p = let z = rank_low (reads_first v) q p in omega arith

  pub empty_before_middle : (q : ℕ) → Pair (is_filled v) q → empty_taken q < middle
  empty_before_middle q p = let z = rank_low (is_filled v) q p in omega arith

  behind_first : (n i : ℕ) (x : Instr) → n ≡ length (numbers (reads_first v)) + i
      → slice_get (map Suc0 (numbers (is_filled v)) ++ (v.it.instr ∷ (map Pre0 (numbers (reads_last v)) ++ map Pre1 (numbers (is_filled v))))) i ≡ Some x → slice_get (block pairs v) n ≡ Some x
  behind_first n i x e h =
      let z : n ≡ length (map Suc1 (numbers (reads_first v))) + i = (let m = list_length (reads_first v) Suc1 in omega arith) in
      ap (slice_get (block pairs v)) z
      ∙ get_past (map Suc1 (numbers (reads_first v)))
      (map Suc0 (numbers (is_filled v)) ++ (v.it.instr ∷ (map Pre0 (numbers (reads_last v)) ++ map Pre1 (numbers (is_filled v))))) i ∙ h

  behind_takes : (n i : ℕ) (x : Instr) → n ≡ middle + i
      → slice_get (v.it.instr ∷ (map Pre0 (numbers (reads_last v)) ++ map Pre1 (numbers (is_filled v)))) i ≡ Some x → slice_get (block pairs v) n ≡ Some x
  behind_takes n i x e h =
      behind_first n (length (map Suc0 (numbers (is_filled v))) + i) x (let m = list_length (is_filled v) Suc0 in omega arith)
      (get_past (map Suc0 (numbers (is_filled v))) (v.it.instr ∷ (map Pre0 (numbers (reads_last v)) ++ map Pre1 (numbers (is_filled v)))) i ∙ h)

  pub empty_taken_there : (q : ℕ) → Pair (is_filled v) q → slice_get (block pairs v) (empty_taken q) ≡ Some (Suc0 q)
  empty_taken_there q p = behind_first (empty_taken q) (rank (is_filled v) q) (Suc0 q) refl
      (get_before (map Suc0 (numbers (is_filled v))) _ (rank (is_filled v) q) (Suc0 q) (list_it (is_filled v) Suc0 q p))

  pub middle_there : slice_get (block pairs v) middle ≡ Some v.it.instr
  middle_there = behind_takes middle 0 v.it.instr (omega arith) refl

  pub empty_signalled_there : (q : ℕ) → Pair (reads_last v) q → slice_get (block pairs v) (empty_signalled q) ≡ Some (Pre0 q)
  empty_signalled_there q p = behind_takes (empty_signalled q) (suc (rank (reads_last v) q)) (Pre0 q) (omega arith)
      (get_before (map Pre0 (numbers (reads_last v))) (map Pre1 (numbers (is_filled v))) (rank (reads_last v) q) (Pre0 q) (list_it (reads_last v) Pre0 q p))

  pub full_signalled_there : (q : ℕ) → Pair (is_filled v) q → slice_get (block pairs v) (full_signalled q) ≡ Some (Pre1 q)
  full_signalled_there q p = behind_takes (full_signalled q) (suc (length (map Pre0 (numbers (reads_last v))) + rank (is_filled v) q)) (Pre1 q)
      (let m = list_length (reads_last v) Pre0 in omega arith)
      (get_past (map Pre0 (numbers (reads_last v))) (map Pre1 (numbers (is_filled v))) (rank (is_filled v) q) ∙ list_it (is_filled v) Pre1 q p)

-- where block c begins
abbrev pub place_of : List Reader → List Step → ℕ → ℕ
place_of pairs plain c = starts (steps_at pairs) (in_turn plain) c

-- A program over a plain order.
module _ (pairs : List Reader) (plain : List Step) (p : Program) (f : ℕ → List Instr) (qs : List Seq)
    (codes_are : p.seqs ≡ codes f (projection (flat_map (steps_at pairs) (in_turn plain))) 0 qs) (low : (i : ℕ) (y : Step) → slice_get plain i ≡ Some y → y.sequence < length qs) where
  abbrev pub serial : List Step
  serial = flat_map (steps_at pairs) (in_turn plain)

  pub serial_low : (i : ℕ) (y : Step) → slice_get serial i ≡ Some y → y.sequence < length qs
  serial_low i y e =
      let r = in_flat (steps_at pairs) (in_turn plain) i y e in
      let m = from_map (step r.it.it.sequence) (block pairs r.it) r.inner y r.stands in
      let t = from_turn [] plain r.at r.it r.is_it in
      subst (λ (z : Step). z.sequence < length qs) m.is (low r.at r.it.it t.stands)

  abbrev pub names : List ℕ
  names = order p serial f qs codes_are serial_low

  -- instruction a of the loop of s stands at place k of block c
  pub record Here (s a : ℕ) (x : Instr) : Type 0 where
    pub block_number : ℕ
    pub it : Standing Step
    pub inner : ℕ
    pub is_it : slice_get (in_turn plain) block_number ≡ Some it
    pub around : FromTurn [] plain block_number it
    pub stands : slice_get (block pairs it) inner ≡ Some x
    pub sequence : it.it.sequence ≡ s
    pub place : place_in names s a ≡ starts (steps_at pairs) (in_turn plain) block_number + inner
    pub within : inner < length (steps_at pairs it)
    pub entry : Found p serial f qs codes_are serial_low s a x
    pub entry_at : entry.at ≡ starts (steps_at pairs) (in_turn plain) block_number + inner

  pub here : (s a : ℕ) (x : Instr) → Stands p s a x → Here s a x
  here s a x e =
      let h = found p serial f qs codes_are serial_low s a x e in
      let r = in_flat (steps_at pairs) (in_turn plain) h.at (step s x) h.stands in
      let m = from_map (step r.it.it.sequence) (block pairs r.it) r.inner (step s x) r.stands in
      record {
        block_number = r.at;
        it = r.it;
        inner = r.inner;
        is_it = r.is_it;
        around = from_turn [] plain r.at r.it r.is_it;
        stands = m.stands ∙ ap (λ (z : Step). Some z.instr) m.is;
        sequence = ap (λ (z : Step). z.sequence) m.is;
        place = h.place ∙ r.is;
        within = slice_get_within (steps_at pairs r.it) r.inner (step s x) r.stands;
        entry = h;
        entry_at = r.is;
      }

  -- and what stands there stands in the loop
  pub record There (c k : ℕ) (v : Standing Step) (x : Instr) : Type 0 where
    pub at : ℕ
    pub stands : Stands p v.it.sequence at x
    pub place : place_in names v.it.sequence at ≡ starts (steps_at pairs) (in_turn plain) c + k

  pub there : (c k : ℕ) (v : Standing Step) (x : Instr) → slice_get (in_turn plain) c ≡ Some v → slice_get (block pairs v) k ≡ Some x → There c k v x
  there c k v x e h =
      let i = flat_at (steps_at pairs) (in_turn plain) c k v (step v.it.sequence x) e (map_at (step v.it.sequence) (block pairs v) k x h) in
      let r = put p serial f qs codes_are serial_low (starts (steps_at pairs) (in_turn plain) c + k) (step v.it.sequence x) i in
      record { at = r.at; stands = r.stands; place = r.place }

  -- in an earlier block, or earlier in the block
  pub before_of : (s a t b : ℕ) (x y : Instr) (h : Here s a x) (k : Here t b y) → (h.block_number < k.block_number)
      ⊎ ((h.block_number ≡ k.block_number) × (h.inner < k.inner)) → place_in names s a < place_in names t b
  before_of s a t b x y h k (inl l) = let z =
      starts_rise (steps_at pairs) (in_turn plain) h.block_number k.block_number h.inner k.inner h.it h.is_it l h.within in
      let u = h.place in let v = k.place in omega arith
  before_of s a t b x y h k (inr l) = let z = ap (λ (n : ℕ). starts (steps_at pairs) (in_turn plain) n) l.0 in let i = l.1 in let u = h.place in let v = k.place in omega arith

  pub same_here : (s a t b : ℕ) (x y : Instr) (h : Here s a x) (k : Here t b y) → h.block_number ≡ k.block_number → h.inner ≡ k.inner → (s ≡ t) × (a ≡ b)
  same_here s a t b x y h k e i = same_place p serial f qs codes_are serial_low s a t b x y h.entry k.entry
      (let z = ap (λ (n : ℕ). starts (steps_at pairs) (in_turn plain) n) e in let u = h.entry_at in let v = k.entry_at in omega arith)

  pub earlier_here : (s a b : ℕ) (x y : Instr) (h : Here s a x) (k : Here s b y) → place_in names s a < place_in names s b → a < b
  earlier_here s a b x y h k l = earlier p serial f qs codes_are serial_low s a b x y h.entry k.entry (let u = h.place in let v = k.place in let w = h.entry_at in let z = k.entry_at in omega arith)

  -- where it stands in the order tells the block
  pub same_number : (s a : ℕ) (x : Instr) (h : Here s a x) (c : ℕ) (v : Standing Step) → slice_get (in_turn plain) c ≡ Some v
      → place_in names s a ≡ starts (steps_at pairs) (in_turn plain) c + middle pairs v → h.block_number ≡ c
  same_number s a x h c v e l =
      let there = map_at (step v.it.sequence) (block pairs v) (middle pairs v) v.it.instr (middle_there pairs v) in
      (starts_order (steps_at pairs) (in_turn plain) h.block_number c h.inner (middle pairs v) h.it v h.is_it e h.within
      (slice_get_within (steps_at pairs v) (middle pairs v) (step v.it.sequence v.it.instr) there) (sym h.place ∙ l)).0

  -- the same block, where it is the same element
  pub same_block : (s a t b : ℕ) (x y : Instr) (h : Here s a x) (k : Here t b y) → h.block_number ≡ k.block_number → h.it ≡ k.it
  same_block s a t b x y h k e = same_Some h.it k.it (sym h.is_it ∙ ap (slice_get (in_turn plain)) e ∙ k.is_it)
