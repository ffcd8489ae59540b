-- The lines in order are the same lines.
use Rattle.std.proofs.Common.{◌≡◌, ℕ, suc, ◌<◌, nat_le, ◌⊎◌, inl, inr, Bool, true, false, cond, List, [], ◌∷◌, ◌++◌, length, get_or, refl, sym, ap, ◌∙◌, subst, arith}
use Rattle.std.specs.Str.{bytes_eq}
use Rattle.std.proofs.lemmas.Slice.Eq.{bytes_eq-Decides}
use Rattle.std.specs.Prelude.{IsTrue}
use Rattle.algo_tree.specs.declared.Feed.{Feed}
use Rattle.algo_tree.specs.declared.Feed.TheVariants.{Fork, Diffuse, Iterate}
use Rattle.algo_tree.specs.Named.{is_word, AreNames}
use Rattle.algo_tree.specs.Well.{IsNewName, AreDistinctNames, fork_names}
use Rattle.flat_laws.specs.Lines.{outer_of, put_line, in_line_order, fork_place}

-- what holds of each line
abbrev pub AllLines : (Feed → Type 0) → List Feed → Type 0
AllLines P [] = Unit {0}
AllLines P (f ∷ fs) = P f × AllLines P fs

pub all-put : (P : Feed → Type 0) (f : Feed) (fs : List Feed) → P f → AllLines P fs → AllLines P (put_line f fs)
all-put P f [] h all = (h, tt)
all-put P f (g ∷ gs) h all = by (nat_le (outer_of f) (outer_of g)) (all-put P f gs h all.1)
  where
    by : (b : Bool) → AllLines P (put_line f gs) → AllLines P (cond b (f ∷ g ∷ gs) (g ∷ put_line f gs))
    by true later = (h, all)
    by false later = (all.0, later)

pub all-lines : (P : Feed → Type 0) (fs : List Feed) → AllLines P fs → AllLines P (in_line_order fs)
all-lines P [] h = tt
all-lines P (f ∷ fs) h = all-put P f (in_line_order fs) h.0 (all-lines P fs h.1)

many-cons : (f : Feed) (fs gs : List Feed) → length (fork_names fs) ≡ length (fork_names gs) → length (fork_names (f ∷ fs)) ≡ length (fork_names (f ∷ gs))
many-cons (Fork name k len) fs gs e = ap suc e
many-cons (Diffuse k) fs gs e = e
many-cons (Iterate k y) fs gs e = e

many-swap : (f g : Feed) (fs : List Feed) → length (fork_names (f ∷ g ∷ fs)) ≡ length (fork_names (g ∷ f ∷ fs))
many-swap (Fork name k len) (Fork x j m) fs = refl
many-swap (Fork name k len) (Diffuse j) fs = refl
many-swap (Fork name k len) (Iterate j y) fs = refl
many-swap (Diffuse k) (Fork x j m) fs = refl
many-swap (Diffuse k) (Diffuse j) fs = refl
many-swap (Diffuse k) (Iterate j y) fs = refl
many-swap (Iterate k z) (Fork x j m) fs = refl
many-swap (Iterate k z) (Diffuse j) fs = refl
many-swap (Iterate k z) (Iterate j y) fs = refl

many-put : (f : Feed) (fs : List Feed) → length (fork_names (put_line f fs)) ≡ length (fork_names (f ∷ fs))
many-put f [] = refl
many-put f (g ∷ gs) = by (nat_le (outer_of f) (outer_of g)) (many-put f gs)
  where
    by : (b : Bool) → length (fork_names (put_line f gs)) ≡ length (fork_names (f ∷ gs)) → length (fork_names (cond b (f ∷ g ∷ gs) (g ∷ put_line f gs))) ≡ length (fork_names (f ∷ g ∷ gs))
    by true later = refl
    by false later = many-cons g (put_line f gs) (f ∷ gs) later ∙ many-swap g f gs

-- as many fork lines
pub many-lines : (fs : List Feed) → length (fork_names (in_line_order fs)) ≡ length (fork_names fs)
many-lines [] = refl
many-lines (f ∷ fs) = many-put f (in_line_order fs) ∙ many-cons f (in_line_order fs) fs (many-lines fs)

pub new-left : (x : List ℕ) (xs ys : List (List ℕ)) → IsNewName x (xs ++ ys) → IsNewName x xs
new-left x [] ys h = tt
new-left x (y ∷ xs) ys h = (h.0, new-left x xs ys h.1)

pub new-right : (x : List ℕ) (xs ys : List (List ℕ)) → IsNewName x (xs ++ ys) → IsNewName x ys
new-right x [] ys h = h
new-right x (y ∷ xs) ys h = new-right x xs ys h.1

pub new-both : (x : List ℕ) (xs ys : List (List ℕ)) → IsNewName x xs → IsNewName x ys → IsNewName x (xs ++ ys)
new-both x [] ys h k = k
new-both x (y ∷ xs) ys h k = (h.0, new-both x xs ys h.1 k)

pub names-right : (xs ys : List (List ℕ)) → AreDistinctNames (xs ++ ys) → AreDistinctNames ys
names-right [] ys h = h
names-right (x ∷ xs) ys h = names-right xs ys h.1

-- the lines apart from this name, and from each other
abbrev IsOther : List ℕ → Feed → Type 0
IsOther x (Fork name k len) = bytes_eq x name ≡ false
IsOther x (Diffuse k) = Unit {0}
IsOther x (Iterate k y) = Unit {0}

abbrev Differ : Feed → Feed → Type 0
Differ (Fork name k len) g = IsOther name g
Differ (Diffuse k) g = Unit {0}
Differ (Iterate k y) g = Unit {0}

abbrev pub AreApart : List Feed → Type 0
AreApart [] = Unit {0}
AreApart (f ∷ fs) = AllLines (Differ f) fs × AreApart fs

turned : (x y : List ℕ) → bytes_eq x y ≡ false → bytes_eq y x ≡ false
turned x y h = by (bytes_eq y x) refl
  where
    by : (b : Bool) → bytes_eq y x ≡ b → bytes_eq y x ≡ false
    by false e = e
    by true e = let same : bytes_eq x y ≡ true = (bytes_eq-Decides x y).1 (sym ((bytes_eq-Decides y x).0 e)) in cc

differ-turned : (f g : Feed) → Differ f g → Differ g f
differ-turned (Fork name k len) (Fork x j m) h = turned name x h
differ-turned (Fork name k len) (Diffuse j) h = tt
differ-turned (Fork name k len) (Iterate j y) h = tt
differ-turned (Diffuse k) (Fork x j m) h = tt
differ-turned (Diffuse k) (Diffuse j) h = tt
differ-turned (Diffuse k) (Iterate j y) h = tt
differ-turned (Iterate k z) (Fork x j m) h = tt
differ-turned (Iterate k z) (Diffuse j) h = tt
differ-turned (Iterate k z) (Iterate j y) h = tt

apart-put : (f : Feed) (fs : List Feed) → AllLines (Differ f) fs → AreApart fs → AreApart (put_line f fs)
apart-put f [] h apart = (tt, tt)
apart-put f (g ∷ gs) h apart = by (nat_le (outer_of f) (outer_of g)) (apart-put f gs h.1 apart.1)
  where
    by : (b : Bool) → AreApart (put_line f gs) → AreApart (cond b (f ∷ g ∷ gs) (g ∷ put_line f gs))
    by true later = (h, apart)
    by false later = (all-put (Differ g) f gs (differ-turned f g h.0) apart.0, later)

pub apart-lines : (fs : List Feed) → AreApart fs → AreApart (in_line_order fs)
apart-lines [] h = tt
apart-lines (f ∷ fs) h = apart-put f (in_line_order fs) (all-lines (Differ f) fs h.0) (apart-lines fs h.1)

-- lines with none of these names
abbrev IsNoneOf : List (List ℕ) → Feed → Type 0
IsNoneOf js (Fork name k len) = IsNewName name js
IsNoneOf js (Diffuse k) = Unit {0}
IsNoneOf js (Iterate k y) = Unit {0}

new-all : (x : List ℕ) (fs : List Feed) → IsNewName x (fork_names fs) → AllLines (IsOther x) fs
new-all x [] h = tt
new-all x (Fork name k len ∷ fs) h = (h.0, new-all x fs h.1)
new-all x (Diffuse k ∷ fs) h = (tt, new-all x fs h)
new-all x (Iterate k y ∷ fs) h = (tt, new-all x fs h)

all-new : (x : List ℕ) (fs : List Feed) → AllLines (IsOther x) fs → IsNewName x (fork_names fs)
all-new x [] h = tt
all-new x (Fork name k len ∷ fs) h = (h.0, all-new x fs h.1)
all-new x (Diffuse k ∷ fs) h = all-new x fs h.1
all-new x (Iterate k y ∷ fs) h = all-new x fs h.1

none-differ : (g : Feed) (fs : List Feed) → ((name : List ℕ) (k len : ℕ) → g ≡ Fork name k len → ⊥) → AllLines (Differ g) fs
none-differ (Fork name k len) fs h = absurd (h name k len refl)
none-differ (Diffuse k) [] h = tt
none-differ (Diffuse k) (f ∷ fs) h = (tt, none-differ (Diffuse k) fs h)
none-differ (Iterate k y) [] h = tt
none-differ (Iterate k y) (f ∷ fs) h = (tt, none-differ (Iterate k y) fs h)

pub apart-of : (fs : List Feed) (js : List (List ℕ)) → AreDistinctNames (fork_names fs ++ js) → AreApart fs
apart-of [] js h = tt
apart-of (Fork name k len ∷ fs) js h = (new-all name fs (new-left name (fork_names fs) js h.0), apart-of fs js h.1)
apart-of (Diffuse k ∷ fs) js h = (none-differ (Diffuse k) fs (λ name j len e. cc), apart-of fs js h)
apart-of (Iterate k y ∷ fs) js h = (none-differ (Iterate k y) fs (λ name j len e. cc), apart-of fs js h)

none-of : (fs : List Feed) (js : List (List ℕ)) → AreDistinctNames (fork_names fs ++ js) → AllLines (IsNoneOf js) fs
none-of [] js h = tt
none-of (Fork name k len ∷ fs) js h = (new-right name (fork_names fs) js h.0, none-of fs js h.1)
none-of (Diffuse k ∷ fs) js h = (tt, none-of fs js h)
none-of (Iterate k y ∷ fs) js h = (tt, none-of fs js h)

distinct-of : (fs : List Feed) (js : List (List ℕ)) → AreApart fs → AllLines (IsNoneOf js) fs → AreDistinctNames js → AreDistinctNames (fork_names fs ++ js)
distinct-of [] js apart none h = h
distinct-of (Fork name k len ∷ fs) js apart none h = (new-both name (fork_names fs) js (all-new name fs apart.0) none.0, distinct-of fs js apart.1 none.1 h)
distinct-of (Diffuse k ∷ fs) js apart none h = distinct-of fs js apart.1 none.1 h
distinct-of (Iterate k y ∷ fs) js apart none h = distinct-of fs js apart.1 none.1 h

-- distinct names are distinct in the order of the lines, beside the same others
pub distinct-lines : (fs : List Feed) (js : List (List ℕ)) → AreDistinctNames (fork_names fs ++ js) → AreDistinctNames (fork_names (in_line_order fs) ++ js)
distinct-lines fs js h =
    distinct-of (in_line_order fs) js (apart-lines fs (apart-of fs js h)) (all-lines (IsNoneOf js) fs (none-of fs js h)) (names-right (fork_names fs) js h)

-- one of these lines
abbrev pub IsLine : Feed → List Feed → Type 0
IsLine f [] = ⊥
IsLine f (g ∷ gs) = (f ≡ g) ⊎ IsLine f gs

here-put : (f : Feed) (fs : List Feed) → IsLine f (put_line f fs)
here-put f [] = inl refl
here-put f (g ∷ gs) = by (nat_le (outer_of f) (outer_of g)) (here-put f gs)
  where
    by : (b : Bool) → IsLine f (put_line f gs) → IsLine f (cond b (f ∷ g ∷ gs) (g ∷ put_line f gs))
    by true later = inl refl
    by false later = inr later

stays-put : (f g : Feed) (fs : List Feed) → IsLine g fs → IsLine g (put_line f fs)
stays-put f g [] l = absurd l
stays-put f g (h ∷ hs) l = by (nat_le (outer_of f) (outer_of h)) (λ m. stays-put f g hs m)
  where
    by : (b : Bool) → (IsLine g hs → IsLine g (put_line f hs)) → IsLine g (cond b (f ∷ h ∷ hs) (h ∷ put_line f hs))
    by true later = inr l
    by false later = elim l [ inl e ↦ inl e | inr m ↦ inr (later m) ]

all-map : (P Q : Feed → Type 0) (fs : List Feed) → ((f : Feed) → P f → Q f) → AllLines P fs → AllLines Q fs
all-map P Q [] go h = tt
all-map P Q (f ∷ fs) go h = (go f h.0, all-map P Q fs go h.1)

pub lines-are : (fs : List Feed) → AllLines (λ f. IsLine f (in_line_order fs)) fs
lines-are [] = tt
lines-are (f ∷ fs) =
    (here-put f (in_line_order fs), all-map (λ g. IsLine g (in_line_order fs)) (λ g. IsLine g (put_line f (in_line_order fs))) fs (λ g. stays-put f g (in_line_order fs)) (lines-are fs))

-- something for each fork line, from its outer input and the length of a part
abbrev pub forked : {A : Type 0} → (ℕ → ℕ → A) → List Feed → List A
forked value [] = []
forked value (Fork name k len ∷ fs) = value k len ∷ forked value fs
forked value (Diffuse k ∷ fs) = forked value fs
forked value (Iterate k y ∷ fs) = forked value fs

pub long-forked : {A : Type 0} (value : ℕ → ℕ → A) (fs : List Feed) → length (forked value fs) ≡ length (fork_names fs)
long-forked value [] = refl
long-forked value (Fork name k len ∷ fs) = ap suc (long-forked value fs)
long-forked value (Diffuse k ∷ fs) = long-forked value fs
long-forked value (Iterate k y ∷ fs) = long-forked value fs

same_name : (x y : List ℕ) → bytes_eq x y ≡ true → x ≡ y
same_name x y h = (bytes_eq-Decides x y).0 h

equal_name : (x y : List ℕ) → x ≡ y → bytes_eq x y ≡ true
equal_name x y h = (bytes_eq-Decides x y).1 h

pub place-below : (name : List ℕ) (k len : ℕ) (fs : List Feed) → IsLine (Fork name k len) fs → fork_place name fs < length (fork_names fs)
place-below name k len [] l = absurd l
place-below name k len (Fork x j m ∷ fs) l = by (bytes_eq name x) refl (λ later. place-below name k len fs later)
  where
    by : (b : Bool) → bytes_eq name x ≡ b → (IsLine (Fork name k len) fs → fork_place name fs < length (fork_names fs)) → cond b 0 (suc (fork_place name fs)) < suc (length (fork_names fs))
    by true e go = omega arith
    by false e go = elim l [
      | inl same ↦ let is : name ≡ x = cc in let test = equal_name name x is in cc
      | inr later ↦ let h = go later in omega (arith, h)
    ]
place-below name k len (Diffuse j ∷ fs) l = elim l [ inl same ↦ cc | inr later ↦ place-below name k len fs later ]
place-below name k len (Iterate j y ∷ fs) l = elim l [ inl same ↦ cc | inr later ↦ place-below name k len fs later ]

-- a line of this name is no other
not-later : (name x : List ℕ) (k len : ℕ) (fs : List Feed) → AllLines (IsOther x) fs → IsLine (Fork name k len) fs → bytes_eq x name ≡ false
not-later name x k len [] h l = absurd l
not-later name x k len (f ∷ fs) h l = elim l [
  | inl same ↦ subst (IsOther x) (sym same) h.0
  | inr later ↦ not-later name x k len fs h.1 later
]

-- what stands for a fork line stands at its place
pub at-place : {A : Type 0} (value : ℕ → ℕ → A) (d : A) (name : List ℕ) (k len : ℕ) (fs : List Feed) → AreApart fs
    → IsLine (Fork name k len) fs → get_or (forked value fs) (fork_place name fs) d ≡ value k len
at-place value d name k len [] apart l = absurd l
at-place value d name k len (Fork x j m ∷ fs) apart l = by (bytes_eq name x) refl (λ later. at-place value d name k len fs apart.1 later)
  where
    by : (b : Bool) → bytes_eq name x ≡ b → (IsLine (Fork name k len) fs → get_or (forked value fs) (fork_place name fs) d ≡ value k len)
        → get_or (value j m ∷ forked value fs) (cond b 0 (suc (fork_place name fs))) d ≡ value k len
    by true e go = elim l [
      | inl same ↦ cc
      | inr later ↦
          let other = not-later name x k len fs apart.0 later in
          let test = equal_name x name (sym (same_name name x e)) in
          cc
    ]
    by false e go = elim l [
      | inl same ↦ let is : name ≡ x = cc in let test = equal_name name x is in cc
      | inr later ↦ go later
    ]
at-place value d name k len (Diffuse j ∷ fs) apart l = elim l [ inl same ↦ cc | inr later ↦ at-place value d name k len fs apart.1 later ]
at-place value d name k len (Iterate j y ∷ fs) apart l = elim l [ inl same ↦ cc | inr later ↦ at-place value d name k len fs apart.1 later ]

-- names are names in the order of the lines
abbrev IsLineNamed : Feed → Type 0
IsLineNamed (Fork name k len) = IsTrue (is_word name)
IsLineNamed (Diffuse k) = Unit {0}
IsLineNamed (Iterate k y) = Unit {0}

line-names : (fs : List Feed) → AreNames (fork_names fs) → AllLines IsLineNamed fs
line-names [] h = tt
line-names (Fork name k len ∷ fs) h = (h.0, line-names fs h.1)
line-names (Diffuse k ∷ fs) h = (tt, line-names fs h)
line-names (Iterate k y ∷ fs) h = (tt, line-names fs h)

names-line : (fs : List Feed) → AllLines IsLineNamed fs → AreNames (fork_names fs)
names-line [] h = tt
names-line (Fork name k len ∷ fs) h = (h.0, names-line fs h.1)
names-line (Diffuse k ∷ fs) h = names-line fs h.1
names-line (Iterate k y ∷ fs) h = names-line fs h.1

pub names-lines : (fs : List Feed) → AreNames (fork_names fs) → AreNames (fork_names (in_line_order fs))
names-lines fs h = names-line (in_line_order fs) (all-lines IsLineNamed fs (line-names fs h))
