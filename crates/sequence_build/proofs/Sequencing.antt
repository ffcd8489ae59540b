-- What is noted of all sequences: the sequences that read a buffer, and the place where it is written.
use Rattle.std.proofs.Common.{◌≡◌, ℕ, zero, suc, ◌+◌, ◌≤◌, ◌⊎◌, Bool, true, false, cond, List, [], ◌∷◌, ◌++◌, Option, Some, None, refl, sym, ap, inl, inr, arith, ◌∙◌, append_assoc}
use Rattle.std.specs.Prelude.{slice_get, is_some}
use Rattle.std.specs.List.{list_any}
use Rattle.std.proofs.lemmas.Bool.{false≢true, ne_eqb}
use Rattle.std.proofs.lemmas.Option.{same_Some}
use Rattle.std.proofs.lemmas.List.{append-nil}
use Rattle.sequence_build.specs.declared.uses.Use.{Use}
use Rattle.sequence_build.specs.declared.uses.Place.{Place}
use Rattle.sequence_build_laws.specs.declared.Instr.{Instr}
use Rattle.sequence_build_laws.specs.declared.SeqCode.{SeqCode}
use Rattle.sequence_build.specs.Uses.{use_of, place_of, is_by, last_of, uses_by, write_in, write_by}
use Rattle.sequence_build.proofs.Places.{IsFresh, uses_are, use_in, last_is, first_from, last_from}

-- none of the sequences from this one on is the last of these
abbrev AreFresh : ℕ → List Use → Type 0
AreFresh s us = (t : ℕ) → s ≤ t → IsFresh t us

module _ (p : Instr → Bool) where
  abbrev pub all_uses : ℕ → List SeqCode → List Use
  all_uses s [] = []
  all_uses s (q ∷ qs) = use_in p s 0 q.turn ++ all_uses (suc s) qs

  still_fresh : (s : ℕ) (xs : List Instr) (us : List Use) → AreFresh s us → AreFresh (suc s) (us ++ use_in p s 0 xs)
  still_fresh s xs us f t h = by (list_any p xs)
    where
      by : (b : Bool) → IsFresh t (us ++ cond b (use_of s (first_from p 0 xs) (last_from p 0 0 xs) ∷ []) [])
      by true = ap (is_by t) (last_is us (use_of s (first_from p 0 xs) (last_from p 0 0 xs))) ∙ ne_eqb s t (λ e. omega arith)
      by false = ap (λ (l : List Use). is_by t (last_of l)) (append-nil us) ∙ f t (omega arith)

  pub noted_uses : (s : ℕ) (qs : List SeqCode) (us : List Use) → AreFresh s us → uses_by p s qs us ≡ us ++ all_uses s qs
  noted_uses s [] us f = sym (append-nil us)
  noted_uses s (q ∷ qs) us f =
      ap (uses_by p (suc s) qs) (uses_are p s 0 q.turn us (f s (omega arith)))
      ∙ noted_uses (suc s) qs (us ++ use_in p s 0 q.turn) (still_fresh s q.turn us f)
      ∙ append_assoc us (use_in p s 0 q.turn) (all_uses (suc s) qs)

  pub uses_from_none : (qs : List SeqCode) → uses_by p 0 qs [] ≡ all_uses 0 qs
  uses_from_none qs = noted_uses 0 qs [] (λ t h. refl)

  -- a place where one passes
  pub record Found (s : ℕ) (qs : List SeqCode) (z : Place) : Type 0 where
    pub number : ℕ
    pub code : SeqCode
    pub instr : Instr
    pub is_code : slice_get qs number ≡ Some code
    pub sequence : z.sequence ≡ s + number
    pub stands : slice_get code.turn z.at ≡ Some instr
    pub passes : p instr ≡ true

  record FoundIn (s at : ℕ) (xs : List Instr) (z : Place) : Type 0 where
    number : ℕ
    instr : Instr
    sequence : z.sequence ≡ s
    place : z.at ≡ at + number
    stands : slice_get xs number ≡ Some instr
    passes : p instr ≡ true

  write_found_in : (s at : ℕ) (xs : List Instr) (w : Option Place) (z : Place) → write_in p s at xs w ≡ Some z → (w ≡ Some z) ⊎ FoundIn s at xs z
  write_found_in s at [] w z e = inl e
  write_found_in s at (x ∷ xs) w z e = by (p x) refl (λ v d. write_found_in s (suc at) xs v z d) e
    where
      by : (b : Bool) → p x ≡ b → ((v : Option Place) → write_in p s (suc at) xs v ≡ Some z → (v ≡ Some z) ⊎ FoundIn s (suc at) xs z)
          → write_in p s (suc at) xs (cond b (Some (place_of s at)) w) ≡ Some z → (w ≡ Some z) ⊎ FoundIn s at (x ∷ xs) z
      by b t r d = elim (r (cond b (Some (place_of s at)) w) d) [
        | inl h ↦ here b t h
        | inr h ↦ inr (record { number = suc h.number; instr = h.instr; sequence = h.sequence; place = (let k = h.place in omega arith); stands = h.stands; passes = h.passes })
      ]
        where
          here : (b : Bool) → p x ≡ b → cond b (Some (place_of s at)) w ≡ Some z → (w ≡ Some z) ⊎ FoundIn s at (x ∷ xs) z
          here true t h = let same = same_Some (place_of s at) z h in
              inr (record {
                number = 0;
                instr = x;
                sequence = ap (λ (y : Place). y.sequence) (sym same);
                place =
                    (let k = ap (λ (y : Place). y.at) (sym same) in omega arith);
                stands = refl;
                passes = t;
              })
          here false t h = inl h

  pub write_found : (s : ℕ) (qs : List SeqCode) (w : Option Place) (z : Place) → write_by p s qs w ≡ Some z → (w ≡ Some z) ⊎ Found s qs z
  write_found s [] w z e = inl e
  write_found s (q ∷ qs) w z e = elim (write_found (suc s) qs (write_in p s 0 q.turn w) z e) [
    | inl h ↦ elim (write_found_in s 0 q.turn w z h) [
      | inl k ↦ inl k
      | inr k ↦ inr (record {
        number = 0;
        code = q;
        instr = k.instr;
        is_code = refl;
        sequence =
            (let n = k.sequence in omega arith);
        stands = ap (slice_get q.turn) (let n = k.place in omega arith) ∙ k.stands;
        passes = k.passes;
      })
    ]
    | inr h ↦ inr (record { number = suc h.number; code = h.code; instr = h.instr; is_code = h.is_code; sequence = (let n = h.sequence in omega arith); stands = h.stands; passes = h.passes })
  ]

  -- where one passes, a place is noted
  write_kept : (s at : ℕ) (xs : List Instr) (z : Place) → is_some (write_in p s at xs (Some z)) ≡ true
  write_kept s at [] z = refl
  write_kept s at (x ∷ xs) z = by (p x) (λ y. write_kept s (suc at) xs y)
    where
      by : (b : Bool) → ((y : Place) → is_some (write_in p s (suc at) xs (Some y)) ≡ true) → is_some (write_in p s (suc at) xs (cond b (Some (place_of s at)) (Some z))) ≡ true
      by true r = r (place_of s at)
      by false r = r z

  write_noted : (s at : ℕ) (xs : List Instr) (w : Option Place) (n : ℕ) (x : Instr) → slice_get xs n ≡ Some x → p x ≡ true → is_some (write_in p s at xs w) ≡ true
  write_noted s at [] w n x e t = absurd cc
  write_noted s at (y ∷ xs) w zero x e t =
      ap (λ (b : Bool). is_some (write_in p s (suc at) xs (cond b (Some (place_of s at)) w))) (ap p (same_Some y x e) ∙ t)
      ∙ write_kept s (suc at) xs (place_of s at)
  write_noted s at (y ∷ xs) w (suc n) x e t = write_noted s (suc at) xs (cond (p y) (Some (place_of s at)) w) n x e t

  always_kept : (s : ℕ) (qs : List SeqCode) (w : Option Place) → is_some w ≡ true → is_some (write_by p s qs w) ≡ true
  always_kept s [] w h = h
  always_kept s (q ∷ qs) w h = always_kept (suc s) qs (write_in p s 0 q.turn w) (by w h)
    where
      by : (w : Option Place) → is_some w ≡ true → is_some (write_in p s 0 q.turn w) ≡ true
      by None h = absurd (false≢true h)
      by (Some z) h = write_kept s 0 q.turn z

  pub write_there : (s : ℕ) (qs : List SeqCode) (w : Option Place) (i n : ℕ) (x : Instr) (q : SeqCode) → slice_get qs i ≡ Some q
      → slice_get q.turn n ≡ Some x → p x ≡ true → is_some (write_by p s qs w) ≡ true
  write_there s [] w i n x q e h t = absurd cc
  write_there s (r ∷ qs) w zero n x q e h t =
      always_kept (suc s) qs (write_in p s 0 r.turn w) (write_noted s 0 r.turn w n x (ap (λ (c : SeqCode). slice_get c.turn n) (same_Some r q e) ∙ h) t)
  write_there s (r ∷ qs) w (suc i) n x q e h t = write_there (suc s) qs (write_in p s 0 r.turn w) i n x q e h t
