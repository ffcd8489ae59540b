-- The places of a number ascend: no two of them are the same.
use Rattle.std.proofs.Common.{◌≡◌, ℕ, zero, suc, ◌+◌, ◌<◌, ◌≤◌, ◌⊎◌, Bool, true, false, cond, List, [], ◌∷◌, ◌++◌, refl, sym, subst, inl, inr, arith, append_assoc, ◌∙◌}
use Rattle.std.specs.Prelude.{Some, slice_get}
use Rattle.std.proofs.lemmas.Option.{same_Some}
use Rattle.std.specs.List.{filter}
use Rattle.sequence_build_laws.specs.declared.Instr.{Instr}
use Rattle.sequence_build_laws.specs.declared.SeqCode.{SeqCode}
use Rattle.sequence_build_laws.specs.declared.Program.{Program}
use Rattle.program_tables.specs.declared.mark_table.Mark.{Mark}
use Rattle.program_tables.specs.declared.roles.Role.{Role}
use Rattle.program_tables.specs.Marks.{marks_at, marks_in, marks_from, marks_of, named}
use Rattle.program_tables.proofs.Naming.{of_number}
use Rattle.check_places.specs.First.{first_failing}
use Rattle.check_places.specs.Wrong.{IsEarlier}

-- a place at port k of instruction a of s, or after it
abbrev pub IsFrom : ℕ → ℕ → ℕ → Mark → Type 0
IsFrom s a k u = (s < u.sequence) ⊎ ((s ≡ u.sequence) × ((a < u.at) ⊎ ((a ≡ u.at) × (k ≤ u.port))))

abbrev pub Rising : ℕ → ℕ → ℕ → List Mark → Type 0
Rising s a k [] = Unit {0}
Rising s a k (u ∷ us) = IsFrom s a k u × Rising u.sequence u.at (u.port + 1) us

-- this place, or one before it
abbrev IsUpTo : ℕ → ℕ → ℕ → ℕ → ℕ → ℕ → Type 0
IsUpTo s a k t b j = (s < t) ⊎ ((s ≡ t) × ((a < b) ⊎ ((a ≡ b) × (k ≤ j))))

earlier_one : (s a k t b j : ℕ) (u : Mark) → IsUpTo s a k t b j → IsFrom t b j u → IsFrom s a k u
earlier_one s a k t b j u (inl l) (inl m) = inl (omega arith)
earlier_one s a k t b j u (inl l) (inr m) = inl (let e = m.0 in omega arith)
earlier_one s a k t b j u (inr l) (inl m) = inl (let e = l.0 in omega arith)
earlier_one s a k t b j u (inr l) (inr m) = inr (l.0 ∙ m.0, within l.1 m.1)
  where
    within : (a < b) ⊎ ((a ≡ b) × (k ≤ j)) → (b < u.at) ⊎ ((b ≡ u.at) × (j ≤ u.port)) → (a < u.at) ⊎ ((a ≡ u.at) × (k ≤ u.port))
    within (inl x) (inl y) = inl (omega arith)
    within (inl x) (inr y) = inl (let e = y.0 in omega arith)
    within (inr x) (inl y) = inl (let e = x.0 in omega arith)
    within (inr x) (inr y) = inr (x.0 ∙ y.0, let f = x.1 in let g = y.1 in omega arith)

earlier : (s a k t b j : ℕ) (ms : List Mark) → IsUpTo s a k t b j → Rising t b j ms → Rising s a k ms
earlier s a k t b j [] l h = tt
earlier s a k t b j (u ∷ us) l h = (earlier_one s a k t b j u l h.0, h.1)

-- a place before the one after it
next_of : (s a k : ℕ) (u : Mark) → IsFrom s a k u → IsUpTo s a k u.sequence u.at (u.port + 1)
next_of s a k u (inl l) = inl l
next_of s a k u (inr (e, inl l)) = inr (e, inl l)
next_of s a k u (inr (e, inr (f, l))) = inr (e, inr (f, omega arith))

filtered : (test : Mark → Bool) (s a k : ℕ) (ms : List Mark) → Rising s a k ms → Rising s a k (filter test ms)
filtered test s a k [] h = tt
filtered test s a k (u ∷ us) h = by (test u) (filtered test u.sequence u.at (u.port + 1) us h.1)
  where
    by : (b : Bool) → Rising u.sequence u.at (u.port + 1) (filter test us) → Rising s a k (cond b (u ∷ filter test us) (filter test us))
    by true r = (h.0, r)
    by false r = earlier s a k u.sequence u.at (u.port + 1) (filter test us) (next_of s a k u h.0) r

rising_at : (s a k : ℕ) (ns : List ℕ) (rest : List Mark) → Rising s (a + 1) 0 rest → Rising s a k (marks_at s a k ns ++ rest)
rising_at s a k [] rest h = earlier s a k s (a + 1) 0 rest (inr (refl, inl (omega arith))) h
rising_at s a k (n ∷ ns) rest h = (inr (refl, inr (refl, omega arith)), rising_at s a (k + 1) ns rest h)

rising_in : (role : Role) (s a : ℕ) (xs : List Instr) (rest : List Mark) → Rising (s + 1) 0 0 rest → Rising s a 0 (marks_in role s a xs ++ rest)
rising_in role s a [] rest h = earlier s a 0 (s + 1) 0 0 rest (inl (omega arith)) h
rising_in role s a (x ∷ xs) rest h =
    subst (λ (ms : List Mark). Rising s a 0 ms) (sym (append_assoc (marks_at s a 0 (named role x)) (marks_in role s (a + 1) xs) rest))
    (rising_at s a 0 (named role x) (marks_in role s (a + 1) xs ++ rest) (rising_in role s (a + 1) xs rest h))

rising_from : (role : Role) (s : ℕ) (qs : List SeqCode) → Rising s 0 0 (marks_from role s qs)
rising_from role s [] = tt
rising_from role s (q ∷ qs) = rising_in role s 0 q.turn (marks_from role (s + 1) qs) (rising_from role (s + 1) qs)

-- the places of a number ascend
pub rising : (p : Program) (role : Role) (n : ℕ) → Rising 0 0 0 (marks_of p role n)
rising p role n = filtered (of_number n) 0 0 0 (marks_from role 0 p.seqs) (rising_from role 0 p.seqs)

-- each of them comes after the first
pub each_after : (s a k : ℕ) (ms : List Mark) → Rising s a k ms → (i : ℕ) (u : Mark) → slice_get ms i ≡ Some u → IsFrom s a k u
each_after s a k [] h i u e = absurd cc
each_after s a k (m ∷ ms) h zero u e = subst (λ (v : Mark). IsFrom s a k v) (same_Some m u e) h.0
each_after s a k (m ∷ ms) h (suc i) u e =
    each_after s a k ms (earlier s a k m.sequence m.at (m.port + 1) ms (next_of s a k m h.0) h.1) i u e

weaker : (s a k : ℕ) (u : Mark) → IsFrom s a (k + 1) u → IsFrom s a k u
weaker s a k u (inl l) = inl l
weaker s a k u (inr (e, inl l)) = inr (e, inl l)
weaker s a k u (inr (e, inr (f, l))) = inr (e, inr (f, omega arith))

-- those before the first that fails pass, and the others do not come before it
pub passed_or_later : (test : Mark → Bool) (s a k : ℕ) (ms : List Mark) (m : Mark) → Rising s a k ms → first_failing test ms ≡ Some m
    → (i : ℕ) (u : Mark) → slice_get ms i ≡ Some u → (test u ≡ true) ⊎ IsFrom m.sequence m.at m.port u
passed_or_later test s a k [] m h f i u e = absurd cc
passed_or_later test s a k (v ∷ vs) m h f i u e = by (test v) refl f i e (λ j d c. passed_or_later test v.sequence v.at (v.port + 1) vs m h.1 d j u c)
  where
    itself : IsFrom v.sequence v.at v.port v
    itself = inr (refl, inr (refl, omega arith))

    by : (b : Bool) → test v ≡ b → cond b (first_failing test vs) (Some v) ≡ Some m → (i : ℕ) → slice_get (v ∷ vs) i ≡ Some u
        → ((j : ℕ) → first_failing test vs ≡ Some m → slice_get vs j ≡ Some u → (test u ≡ true) ⊎ IsFrom m.sequence m.at m.port u)
        → (test u ≡ true) ⊎ IsFrom m.sequence m.at m.port u
    by true q f zero e more = inl (subst (λ (z : Mark). test z ≡ true) (same_Some v u e) q)
    by true q f (suc i) e more = more i f e
    by false q f zero e more = inr (subst (λ (z : Mark). IsFrom z.sequence z.at z.port u) (same_Some v m f) (subst (λ (z : Mark). IsFrom v.sequence v.at v.port z) (same_Some v u e) itself))
    by false q f (suc i) e more =
        inr (subst (λ (z : Mark). IsFrom z.sequence z.at z.port u) (same_Some v m f)
        (weaker v.sequence v.at v.port u (each_after v.sequence v.at (v.port + 1) vs h.1 i u e)))

-- what does not come before a place is no earlier instruction
pub not_earlier : (m u : Mark) (k : ℕ) → IsFrom m.sequence m.at k u → IsEarlier u.sequence u.at m.sequence m.at → ⊥
not_earlier m u k (inl l) (inl n) = omega arith
not_earlier m u k (inl l) (inr (e, n)) = omega arith
not_earlier m u k (inr (f, inl l)) (inl n) = omega arith
not_earlier m u k (inr (f, inl l)) (inr (e, n)) = omega arith
not_earlier m u k (inr (f, inr (g, l))) (inl n) = omega arith
not_earlier m u k (inr (f, inr (g, l))) (inr (e, n)) = omega arith

-- in one sequence it is not at a lower place
pub not_lower : (m u : Mark) (k : ℕ) → IsFrom m.sequence m.at k u → u.sequence ≡ m.sequence → m.at ≤ u.at
not_lower m u k (inl l) same = absurd (omega arith)
not_lower m u k (inr (e, inl l)) same = omega arith
not_lower m u k (inr (e, inr (at, l))) same = omega arith
