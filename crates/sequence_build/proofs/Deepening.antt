-- Buffers of several places, by the pairs that guard them.
use Rattle.std.proofs.Common.{◌≡◌, ◌≢◌, ℕ, zero, suc, ◌+◌, ◌⊎◌, Bool, true, false, ◌||◌, cond, nat_eq, List, [], ◌∷◌, map, Option, Some, None, refl, sym, ap, inl, inr, arith, ◌∙◌, eq-eqb}
use Rattle.std.specs.Prelude.{slice_get, slice_set}
use Rattle.std.specs.List.{list_any}
use Rattle.std.proofs.lemmas.Bool.{false≢true, eqb-true, cases_Bool}
use Rattle.std.proofs.lemmas.Option.{same_Some}
use Rattle.sequence_build_laws.specs.declared.Buffer.{Buffer}
use Rattle.sequence_build_laws.specs.Instructions.{Reader}
use Rattle.sequence_build_laws.specs.Guarded.{guarded_buffers}
use Rattle.sequence_build.specs.declared.pairs.Pair.{Pair}
use Rattle.sequence_build.specs.Pairs.{deep_buffer, deepened}

-- The entry of the readers that a pair is.
abbrev pub reader_of : Pair → Reader
reader_of p = record { buffer = p.buffer; sequence = p.reader }

-- with this many places, where the test says so
abbrev deep : ℕ → Bool → Option Buffer → Option Buffer
deep depth t None = None
deep depth t (Some x) = Some (record { operator = x.operator; len = x.len; depth = cond t depth x.depth })

deep_not : (depth : ℕ) (o : Option Buffer) → deep depth false o ≡ o
deep_not depth None = refl
deep_not depth (Some x) = refl

deep_twice : (depth : ℕ) (t r : Bool) (o : Option Buffer) → deep depth r (deep depth t o) ≡ deep depth (t || r) o
deep_twice depth t r None = refl
deep_twice depth true true (Some x) = refl
deep_twice depth true false (Some x) = refl
deep_twice depth false true (Some x) = refl
deep_twice depth false false (Some x) = refl

pub set_here : {A : Type 0} (xs : List A) (i : ℕ) (x v : A) → slice_get xs i ≡ Some x → slice_get (slice_set xs i v) i ≡ Some v
set_here [] i x v e = absurd cc
set_here (y ∷ xs) zero x v e = refl
set_here (y ∷ xs) (suc i) x v e = set_here xs i x v e

pub set_there : {A : Type 0} (xs : List A) (i j : ℕ) (v : A) → i ≢ j → slice_get (slice_set xs i v) j ≡ slice_get xs j
set_there [] i j v n = refl
set_there (y ∷ xs) zero zero v n = absurd (n refl)
set_there (y ∷ xs) zero (suc j) v n = refl
set_there (y ∷ xs) (suc i) zero v n = refl
set_there (y ∷ xs) (suc i) (suc j) v n = set_there xs i j v (λ e. n (ap (λ (k : ℕ). suc k) e))

-- one buffer is made deep
one_deep : (depth b j : ℕ) (xs : List Buffer) → slice_get (deep_buffer depth (slice_get xs b) xs b) j ≡ deep depth (nat_eq b j) (slice_get xs j)
one_deep depth b j xs = by (slice_get xs b) refl (cases_Bool (nat_eq b j))
  where
    by : (o : Option Buffer) → slice_get xs b ≡ o → (nat_eq b j ≡ true) ⊎ (nat_eq b j ≡ false) → slice_get (deep_buffer depth o xs b) j ≡ deep depth (nat_eq b j) (slice_get xs j)
    by None e (inl t) = let same = eqb-true b j t in let none : slice_get xs j ≡ None = ap (slice_get xs) (sym same) ∙ e in
        none ∙ ap (deep depth (nat_eq b j)) (sym none)
    by None e (inr t) = sym (deep_not depth (slice_get xs j)) ∙ ap (λ (v : Bool). deep depth v (slice_get xs j)) (sym t)
    by (Some x) e (inl t) = let same = eqb-true b j t in
        let v : Buffer = record { operator = x.operator; len = x.len; depth = depth } in
        ap (λ (k : ℕ). slice_get (slice_set xs b v) k) (sym same) ∙ set_here xs b x v e
        ∙ (λ i. deep depth (sym t i) (sym e i)) ∙ ap (λ (k : ℕ). deep depth (nat_eq b j) (slice_get xs k)) same
    by (Some x) e (inr t) =
        let v : Buffer = record { operator = x.operator; len = x.len; depth = depth } in
        set_there xs b j v (λ z. false≢true (sym t ∙ eq-eqb b j z))
        ∙ sym (deep_not depth (slice_get xs j)) ∙ ap (λ (v : Bool). deep depth v (slice_get xs j)) (sym t)

deep_at : (depth : ℕ) (ps : List Pair) (xs : List Buffer) (j : ℕ) → slice_get (deepened depth ps xs) j ≡ deep depth (list_any (λ (p : Pair). nat_eq p.buffer j) ps) (slice_get xs j)
deep_at depth [] xs j = sym (deep_not depth (slice_get xs j))
deep_at depth (p ∷ ps) xs j =
    deep_at depth ps (deep_buffer depth (slice_get xs p.buffer) xs p.buffer) j
    ∙ ap (deep depth (list_any (λ (p : Pair). nat_eq p.buffer j) ps)) (one_deep depth p.buffer j xs)
    ∙ deep_twice depth (nat_eq p.buffer j) (list_any (λ (p : Pair). nat_eq p.buffer j) ps) (slice_get xs j)

-- these have one place each
abbrev pub AreSingle : List Buffer → Type 0
AreSingle xs = (j : ℕ) (x : Buffer) → slice_get xs j ≡ Some x → x.depth ≡ 1

guarded_at : (depth n : ℕ) (rs : List Reader) (xs : List Buffer) → AreSingle xs → (j : ℕ)
    → slice_get (guarded_buffers depth rs n xs) j ≡ deep depth (list_any (λ (r : Reader). nat_eq r.buffer (n + j)) rs) (slice_get xs j)
guarded_at depth n rs [] h j = refl
guarded_at depth n rs (x ∷ xs) h zero =
    let one = h 0 x refl in let z : n ≡ n + 0 = omega arith in
    λ i. Some (record { operator = x.operator; len = x.len; depth = cond (list_any (λ (r : Reader). nat_eq r.buffer (z i)) rs) depth (sym one i) })
guarded_at depth n rs (x ∷ xs) h (suc j) =
    guarded_at depth (suc n) rs xs (λ i y e. h (suc i) y e) j
    ∙ ap (λ (k : ℕ). deep depth (list_any (λ (r : Reader). nat_eq r.buffer k) rs) (slice_get xs j)) (let z : suc n + j ≡ n + suc j = omega arith in z)

-- lists with the same elements are the same
pub same_lists : {A : Type 0} (xs ys : List A) → ((i : ℕ) → slice_get xs i ≡ slice_get ys i) → xs ≡ ys
same_lists [] [] h = refl
same_lists [] (y ∷ ys) h = let z : None ≡ Some y = h 0 in absurd cc
same_lists (x ∷ xs) [] h = let z : Some x ≡ None = h 0 in absurd cc
same_lists (x ∷ xs) (y ∷ ys) h = let head = same_Some x y (h 0) in let rest = same_lists xs ys (λ i. h (suc i)) in λ i. head i ∷ rest i

pub any-map : {A B : Type 0} (p : B → Bool) (f : A → B) (xs : List A) → list_any p (map f xs) ≡ list_any (λ x. p (f x)) xs
any-map p f [] = refl
any-map p f (x ∷ xs) = ap (λ (b : Bool). p (f x) || b) (any-map p f xs)

pub buffers_same : (depth : ℕ) (ps : List Pair) (xs : List Buffer) → AreSingle xs → guarded_buffers depth (map reader_of ps) 0 xs ≡ deepened depth ps xs
buffers_same depth ps xs h = same_lists (guarded_buffers depth (map reader_of ps) 0 xs) (deepened depth ps xs) (λ j.
    guarded_at depth 0 (map reader_of ps) xs h j
    ∙ ap (λ (k : ℕ). deep depth (list_any (λ (r : Reader). nat_eq r.buffer k) (map reader_of ps)) (slice_get xs j)) (let z : 0 + j ≡ j = omega arith in z)
    ∙ ap (λ (b : Bool). deep depth b (slice_get xs j)) (any-map (λ (r : Reader). nat_eq r.buffer j) reader_of ps)
    ∙ sym (deep_at depth ps xs j))
