-- The micro-steps of a well-formed program: those of its semaphores by pair, and the others.
use Rattle.std.proofs.Common.{◌≡◌, ℕ, suc, ◌+◌, ◌*◌, ◌<◌, ◌≤◌, ◌⊎◌, inl, inr, Bool, true, false, cond, nat_eq, List, [], ◌∷◌, ◌++◌, length, map, Option, Some, None, refl, sym, ap, subst, arith, ◌∙◌}
use Rattle.std.specs.Prelude.{slice_get}
use Rattle.std.specs.List.{sum_by, filter}
use Rattle.std.proofs.lemmas.Bool.{false≢true, cases_eq, cases_lt, eq-eqb, ne_eqb}
use Rattle.std.proofs.lemmas.List.Sums.{sum_by-cons, sum_by-append}
use Rattle.std.proofs.lemmas.Option.{slice_get_past}
use Rattle.sequence_build_laws.specs.declared.Seq.{Seq}
use Rattle.sequence_build_laws.specs.Graph.{Graph}
use Rattle.sequence_build_laws.specs.Owners.{sum_below}
use Rattle.sequence_build_laws.proofs.InterleavingSums.{same_below, none_below, both_below}
use Rattle.sequence_build_laws.specs.declared.Instr.{Instr}
use Rattle.sequence_build_laws.specs.declared.Instr.TheVariants.{Suc0, Suc1, Pre0, Pre1, Call, Send, Recv, Sync}
use Rattle.sequence_build_laws.specs.declared.SeqCode.{SeqCode}
use Rattle.sequence_build_laws.specs.declared.Program.{Program}
use Rattle.sequence_build_laws.specs.Instructions.{turn, turn_of, len_of, len_by}
use Rattle.sequence_build_laws.specs.Places.{takes_empty, takes_full, signals_empty, signals_full, pair, places}
use Rattle.sequence_build_laws.specs.Sizes.{plain_of, plain_in, plain_turns}
use Rattle.sequence_build_laws.specs.Steps.{len_at, elements_in}
use Rattle.sequence_build_laws.specs.WellFormed.{IsOrder, IsOnly, NamesIn, Stands, writer_of}
use Rattle.sequence_build_laws.proofs.MicroCounts.{by_place, sum_of_sums, constant}
use Rattle.sequence_build_laws.proofs.Passing.{empty_taken, full_taken, empty_signalled, full_signalled}
use Rattle.sequence_build_laws.proofs.Sums.{swapped, picked, summed, none_passes, one_passes}
use Rattle.sequence_build_laws.specs.Serial.{Step, projection, codes, numbers_where}
use Rattle.sequence_build_laws.proofs.Lines.{is_plain}
use Rattle.sequence_build.specs.declared.pairs.Pair.{Pair}
use Rattle.sequence_build.specs.declared.around.Moment.TheVariants.{FirstRead, LastRead, Write}
use Rattle.sequence_build.specs.Around.{is_then, lines_with, loop_with, code_with, codes_with}
use Rattle.sequence_build.specs.Counted.{step_micros}

-- an instruction of a semaphore is one micro-step, without looks
abbrev pub line_of : Instr → ℕ
line_of (Suc0 q) = 1
line_of (Suc1 q) = 1
line_of (Pre0 q) = 1
line_of (Pre1 q) = 1
line_of _ = 0

abbrev pub core_of : Program → Instr → ℕ
core_of p (Suc0 q) = 0
core_of p (Suc1 q) = 0
core_of p (Pre0 q) = 0
core_of p (Pre1 q) = 0
core_of p x = plain_of p x

both_parts : (p : Program) (x : Instr) → plain_of p x ≡ line_of x + core_of p x
both_parts p (Suc0 q) = refl
both_parts p (Suc1 q) = refl
both_parts p (Pre0 q) = refl
both_parts p (Pre1 q) = refl
both_parts p (Call v ins outs) = omega arith
both_parts p (Send b q) = omega arith
both_parts p (Recv b q) = omega arith
both_parts p (Sync o r) = refl

sum-same : {A : Type 0} (f g : A → ℕ) (xs : List A) → ((i : ℕ) (x : A) → slice_get xs i ≡ Some x → f x ≡ g x) → sum_by f xs ≡ sum_by g xs
sum-same f g [] h = refl
sum-same f g (x ∷ xs) h = sum_by-cons f x xs ∙ (λ i. h 0 x refl i + sum-same f g xs (λ k y e. h (suc k) y e) i) ∙ sym (sum_by-cons g x xs)

pub parts_are : (p : Program) → plain_turns p ≡ sum_by (λ (q : SeqCode). sum_by line_of q.turn) p.seqs + sum_by (λ (q : SeqCode). sum_by (core_of p) q.turn) p.seqs
parts_are p =
    sum-same (λ (q : SeqCode). plain_in p q.turn) (λ (q : SeqCode). sum_by line_of q.turn + sum_by (core_of p) q.turn) p.seqs
    (λ i q e. sum-same (plain_of p) (λ x. line_of x + core_of p x) q.turn (λ k x d. both_parts p x) ∙ sum_of_sums line_of (core_of p) q.turn)
    ∙ sum_of_sums (λ (q : SeqCode). sum_by line_of q.turn) (λ (q : SeqCode). sum_by (core_of p) q.turn) p.seqs

-- The lines of a well-formed program are four for each pair.
module _ (p : Program) (g : Graph) (seqs : List Seq) (media : ℕ) (order : List ℕ) (formed : IsOrder p g seqs media order) where
  abbrev P : ℕ
  P = length p.pairs

  abbrev S : ℕ
  S = length p.seqs

  there : (s a : ℕ) (x : Instr) → Stands p s a x → s < S
  there s a x h = by (cases_lt s S)
    where
      by : (s < S) ⊎ (S ≤ s) → s < S
      by (inl l) = l
      by (inr l) = absurd (nothing (subst (λ (xs : List Instr). slice_get xs a ≡ Some x) (ap turn_of (slice_get_past p.seqs s l)) h))
        where
          nothing : slice_get [] a ≡ Some x → ⊥
          nothing e = absurd cc

  abbrev one : (ℕ → Instr → Bool) → Instr → ℕ
  one test x = sum_below (λ q. cond (test q x) 1 0) P

  by_pair : (x : Instr) → NamesIn p order (places p) (λ b. record { vertex = 0; port = 0 }) g x
      → line_of x ≡ (one takes_empty x + one takes_full x) + (one signals_empty x + one signals_full x)
  by_pair (Suc0 r) n = let e = picked (λ q. 1) P r n in let z = none_below (λ q. 0) P (λ q l. refl) in omega arith
  by_pair (Suc1 r) n = let e = picked (λ q. 1) P r n in let z = none_below (λ q. 0) P (λ q l. refl) in omega arith
  by_pair (Pre0 r) n = let e = picked (λ q. 1) P r n in let z = none_below (λ q. 0) P (λ q l. refl) in omega arith
  by_pair (Pre1 r) n = let e = picked (λ q. 1) P r n in let z = none_below (λ q. 0) P (λ q l. refl) in omega arith
  by_pair (Call v ins outs) n = let z = none_below (λ q. 0) P (λ q l. refl) in omega arith
  by_pair (Send b o) n = let z = none_below (λ q. 0) P (λ q l. refl) in omega arith
  by_pair (Recv b o) n = let z = none_below (λ q. 0) P (λ q l. refl) in omega arith
  by_pair (Sync o r) n = let z = none_below (λ q. 0) P (λ q l. refl) in omega arith

  abbrev in_loop : (ℕ → Instr → Bool) → ℕ → ℕ
  in_loop test s = sum_by (one test) (turn p s)

  list_by_pair : (xs : List Instr) → ((a : ℕ) (x : Instr) → slice_get xs a ≡ Some x → NamesIn p order (places p) (λ b. record { vertex = 0; port = 0 }) g x)
      → sum_by line_of xs ≡ (sum_by (one takes_empty) xs + sum_by (one takes_full) xs) + (sum_by (one signals_empty) xs + sum_by (one signals_full) xs)
  list_by_pair xs h =
      sum-same line_of (λ x. (one takes_empty x + one takes_full x) + (one signals_empty x + one signals_full x)) xs (λ i x e. by_pair x (h i x e))
      ∙ sum_of_sums (λ x. one takes_empty x + one takes_full x) (λ x. one signals_empty x + one signals_full x) xs
      ∙ (λ i. sum_of_sums (one takes_empty) (one takes_full) xs i + sum_of_sums (one signals_empty) (one signals_full) xs i)

  module _ (test : ℕ → Instr → Bool) (line : ℕ → Instr) (test_is : (q : ℕ) (x : Instr) → test q x ≡ true → x ≡ line q) (is_test : (q : ℕ) → test q (line q) ≡ true) where
    once : (q t a s : ℕ) → IsOnly p t a (line q) → sum_by (λ x. cond (test q x) 1 0) (turn p s) ≡ cond (nat_eq t s) 1 0
    once q t a s o = by (cases_eq t s)
      where
        by : (t ≡ s) ⊎ (t ≡ s → ⊥) → sum_by (λ x. cond (test q x) 1 0) (turn p s) ≡ cond (nat_eq t s) 1 0
        by (inl e) = rw (eq-eqb t s e) (one_passes (test q) 1 (turn p s) a (line q) (subst (λ (i : ℕ). Stands p i a (line q)) e o.stands) (is_test q)
            (λ b y k u. (o.only s b (k ∙ ap (λ (x : Instr). Some x) (test_is q y u))).1))
        by (inr n) = rw (ne_eqb t s n) (none_passes (test q) 1 (turn p s) (λ b y k u. n (sym (o.only s b (k ∙ ap (λ (x : Instr). Some x) (test_is q y u))).0)))

    all_once : (home at : ℕ → ℕ) → ((q : ℕ) → q < P → IsOnly p (home q) (at q) (line q)) → sum_below (in_loop test) S ≡ P
    all_once home at only =
        same_below (in_loop test) (λ s. sum_below (λ q. cond (nat_eq (home q) s) 1 0) P) S
        (λ s l. summed (λ q x. cond (test q x) 1 0) P (turn p s)
        ∙ same_below (λ q. sum_by (λ x. cond (test q x) 1 0) (turn p s)) (λ q. cond (nat_eq (home q) s) 1 0) P (λ q k. once q (home q) (at q) s (only q k)))
        ∙ swapped (λ s q. cond (nat_eq (home q) s) 1 0) S P
        ∙ same_below (λ q. sum_below (λ s. cond (nat_eq (home q) s) 1 0) S) (λ q. 1) P (λ q k. picked (λ s. 1) S (home q) (there (home q) (at q) (line q) (only q k).stands))
        ∙ constant 1 P ∙ (let z : P * 1 ≡ P = omega arith in z)

  pub lines_are : sum_by (λ (q : SeqCode). sum_by line_of q.turn) p.seqs ≡ 4 * length p.pairs
  lines_are =
      sym (by_place (λ (o : Option SeqCode). sum_by line_of (turn_of o)) (λ (q : SeqCode). sum_by line_of q.turn) (λ q. refl) p.seqs)
      ∙ same_below (λ s. sum_by line_of (turn p s))
      (λ s. (in_loop takes_empty s + in_loop takes_full s) + (in_loop signals_empty s + in_loop signals_full s)) S
      (λ s l. list_by_pair (turn p s) (λ a x h. formed.named s a x h))
      ∙ both_below (λ s. in_loop takes_empty s + in_loop takes_full s) (λ s. in_loop signals_empty s + in_loop signals_full s) S
      ∙ (λ i. both_below (in_loop takes_empty) (in_loop takes_full) S i + both_below (in_loop signals_empty) (in_loop signals_full) S i)
      ∙ (let a = all_once takes_empty (λ q. Suc0 q) empty_taken (λ q. eq-eqb q q refl) (λ q. writer_of p order (places p) q) (λ q. (pair p q).take_empty) (λ q l. (formed.pairs q l).take_empty) in
      let b = all_once takes_full (λ q. Suc1 q) full_taken (λ q. eq-eqb q q refl) (λ q. (pair p q).reader) (λ q. (pair p q).take_full) (λ q l. (formed.pairs q l).take_full) in
      let c = all_once signals_empty (λ q. Pre0 q) empty_signalled (λ q. eq-eqb q q refl) (λ q. (pair p q).reader) (λ q. (pair p q).signal_empty) (λ q l. (formed.pairs q l).signal_empty) in
      let d = all_once signals_full (λ q. Pre1 q) full_signalled (λ q. eq-eqb q q refl) (λ q. writer_of p order (places p) q) (λ q. (pair p q).signal_full) (λ q l. (formed.pairs q l).signal_full) in
      omega arith)

-- The others are those of the program without semaphores.
module _ (p : Program) where
  no_core : (f : ℕ → Instr) → ((q : ℕ) → core_of p (f q) ≡ 0) → (qs : List ℕ) → sum_by (core_of p) (map f qs) ≡ 0
  no_core f h [] = refl
  no_core f h (q ∷ qs) = sum_by-cons (core_of p) (f q) (map f qs) ∙ (λ i. h q i + no_core f h qs i)

  core_between : (pairs : List Pair) (s a : ℕ) (x : Instr) → sum_by (core_of p) (lines_with pairs s a x) ≡ core_of p x
  core_between pairs s a x =
      let first = numbers_where (is_then FirstRead s a) 0 pairs in
      let write = numbers_where (is_then Write s a) 0 pairs in
      let last = numbers_where (is_then LastRead s a) 0 pairs in
      let b = sum_by-append (core_of p) (map Suc1 first) (map Suc0 write) in
      let c = sum_by-append (core_of p) (map Pre0 last) (map Pre1 write) in
      let d = sum_by-append (core_of p) (map Suc1 first ++ map Suc0 write) (x ∷ (map Pre0 last ++ map Pre1 write)) in
      let e = sum_by-cons (core_of p) x (map Pre0 last ++ map Pre1 write) in
      let i = no_core Suc1 (λ q. refl) first in
      let j = no_core Suc0 (λ q. refl) write in
      let k = no_core Pre0 (λ q. refl) last in
      let l = no_core Pre1 (λ q. refl) write in
      omega arith

  loop_cores : (pairs : List Pair) (s a : ℕ) (xs : List Instr) → sum_by (core_of p) (loop_with pairs s a xs) ≡ sum_by (core_of p) xs
  loop_cores pairs s a [] = refl
  loop_cores pairs s a (x ∷ xs) =
      sum_by-append (core_of p) (lines_with pairs s a x) (loop_with pairs s (suc a) xs)
      ∙ (λ i. core_between pairs s a x i + loop_cores pairs s (suc a) xs i) ∙ sym (sum_by-cons (core_of p) x xs)

  abbrev pub cores_in : List SeqCode → ℕ
  cores_in qs = sum_by (λ (q : SeqCode). sum_by (core_of p) q.turn) qs

  pub cores_same : (depth : ℕ) (pairs : List Pair) (s : ℕ) (qs : List SeqCode) → cores_in (codes_with depth pairs s qs) ≡ cores_in qs
  cores_same depth pairs s [] = refl
  cores_same depth pairs s (q ∷ qs) =
      sum_by-cons (λ (r : SeqCode). sum_by (core_of p) r.turn) (code_with depth pairs s q) (codes_with depth pairs (suc s) qs)
      ∙ (λ i. loop_cores pairs s 0 q.turn i + cores_same depth pairs (suc s) qs i) ∙ sym (sum_by-cons (λ (r : SeqCode). sum_by (core_of p) r.turn) q qs)

  abbrev step_core : Step → ℕ
  step_core x = core_of p x.instr

  abbrev coded : List Step → ℕ → List Seq → ℕ
  coded xs n qs = cores_in (codes (λ _. []) (projection xs) n qs)

  coded-cons : (xs : List Step) (n : ℕ) (q : Seq) (qs : List Seq) → coded xs n (q ∷ qs) ≡ sum_by (core_of p) (projection xs n) + coded xs (suc n) qs
  coded-cons xs n q qs = sum_by-cons (λ (r : SeqCode). sum_by (core_of p) r.turn) (record { seq = q; prologue = []; turn = projection xs n }) (codes (λ _. []) (projection xs) (suc n) qs)

  none_coded : (n : ℕ) (qs : List Seq) → coded [] n qs ≡ 0
  none_coded n [] = refl
  none_coded n (q ∷ qs) = coded-cons [] n q qs ∙ (let e = none_coded (suc n) qs in omega arith)

  loop-cons : (x : Step) (xs : List Step) (n : ℕ) → sum_by (core_of p) (projection (x ∷ xs) n) ≡ cond (nat_eq x.sequence n) (core_of p x.instr) 0 + sum_by (core_of p) (projection xs n)
  loop-cons x xs n = by (nat_eq x.sequence n)
    where
      by : (b : Bool) → sum_by (core_of p) (map (λ (y : Step). y.instr) (cond b (x ∷ filter (λ (y : Step). nat_eq y.sequence n) xs) (filter (λ (y : Step). nat_eq y.sequence n) xs)))
          ≡ cond b (core_of p x.instr) 0 + sum_by (core_of p) (projection xs n)
      by true = sum_by-cons (core_of p) x.instr (projection xs n)
      by false = omega arith

  past : (x : Step) (xs : List Step) (n : ℕ) (qs : List Seq) → x.sequence < n → coded (x ∷ xs) n qs ≡ coded xs n qs
  past x xs n [] l = refl
  past x xs n (q ∷ qs) l =
      let a = coded-cons (x ∷ xs) n q qs in
      let b = coded-cons xs n q qs in
      let c = loop-cons x xs n in
      let d : cond (nat_eq x.sequence n) (core_of p x.instr) 0 ≡ 0 = rw (ne_eqb x.sequence n (λ e. omega arith)) refl in
      let e = past x xs (suc n) qs (omega arith) in
      omega arith

  one_more : (x : Step) (xs : List Step) (n : ℕ) (qs : List Seq) → n ≤ x.sequence → x.sequence < n + length qs → coded (x ∷ xs) n qs ≡ step_core x + coded xs n qs
  one_more x xs n [] l h = absurd (omega arith)
  one_more x xs n (q ∷ qs) l h = by (cases_eq x.sequence n) (λ k. one_more x xs (suc n) qs k (omega arith))
    where
      by : (x.sequence ≡ n) ⊎ (x.sequence ≡ n → ⊥) → (suc n ≤ x.sequence → coded (x ∷ xs) (suc n) qs ≡ step_core x + coded xs (suc n) qs)
          → coded (x ∷ xs) n (q ∷ qs) ≡ step_core x + coded xs n (q ∷ qs)
      by (inl e) r =
          let a = coded-cons (x ∷ xs) n q qs in
          let b = coded-cons xs n q qs in
          let c = loop-cons x xs n in
          let d : cond (nat_eq x.sequence n) (core_of p x.instr) 0 ≡ core_of p x.instr = rw (eq-eqb x.sequence n e) refl in
          let f = past x xs (suc n) qs (omega arith) in
          omega arith
      by (inr e) r =
          let a = coded-cons (x ∷ xs) n q qs in
          let b = coded-cons xs n q qs in
          let c = loop-cons x xs n in
          let d : cond (nat_eq x.sequence n) (core_of p x.instr) 0 ≡ 0 = rw (ne_eqb x.sequence n e) refl in
          let f = r (omega arith) in
          omega arith

  pub steps_coded : (xs : List Step) (qs : List Seq) → ((i : ℕ) (x : Step) → slice_get xs i ≡ Some x → x.sequence < length qs)
      → cores_in (codes (λ _. []) (projection xs) 0 qs) ≡ sum_by (λ (x : Step). core_of p x.instr) xs
  steps_coded [] qs h = none_coded 0 qs
  steps_coded (x ∷ xs) qs h =
      one_more x xs 0 qs (omega arith) (let l = h 0 x refl in omega arith)
      ∙ ap (λ (n : ℕ). step_core x + n) (steps_coded xs qs (λ i y e. h (suc i) y e)) ∙ sym (sum_by-cons step_core x xs)

-- the micro-steps of an instruction are by the lengths of buffers
core_plain : (p : Program) (x : Instr) → is_plain x ≡ true → core_of p x ≡ plain_of p x
core_plain p (Suc0 q) h = absurd (false≢true h)
core_plain p (Suc1 q) h = absurd (false≢true h)
core_plain p (Pre0 q) h = absurd (false≢true h)
core_plain p (Pre1 q) h = absurd (false≢true h)
core_plain p (Call v ins outs) h = refl
core_plain p (Send b q) h = refl
core_plain p (Recv b q) h = refl
core_plain p (Sync o r) h = refl

module _ (p r : Program) (same : (b : ℕ) → len_of p b ≡ len_of r b) where
  elements_same : (xs : List ℕ) → elements_in p xs ≡ elements_in r xs
  elements_same xs = same_below (len_at p xs) (len_at r xs) (length xs) (λ k l. by (slice_get xs k))
    where
      by : (o : Option ℕ) → len_by p o ≡ len_by r o
      by None = refl
      by (Some b) = same b

  plain_same : (x : Instr) → plain_of p x ≡ plain_of r x
  plain_same (Suc0 q) = refl
  plain_same (Suc1 q) = refl
  plain_same (Pre0 q) = refl
  plain_same (Pre1 q) = refl
  plain_same (Call v ins outs) = λ i. elements_same ins i + elements_same outs i
  plain_same (Send b q) = ap (λ (n : ℕ). 2 + 2 * n) (same b)
  plain_same (Recv b q) = ap (λ (n : ℕ). 2 + 2 * n) (same b)
  plain_same (Sync o q) = refl

  pub micros_are : (xs : List Step) → ((i : ℕ) (x : Step) → slice_get xs i ≡ Some x → is_plain x.instr ≡ true) → sum_by (λ (x : Step). core_of p x.instr) xs ≡ step_micros r xs
  micros_are xs h = sum-same (λ (x : Step). core_of p x.instr) (λ (x : Step). plain_of r x.instr) xs (λ i x e. core_plain p x.instr (h i x e) ∙ plain_same x.instr)
