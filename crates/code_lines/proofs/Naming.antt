-- Where a name stands among those of media and of operations.
use Rattle.std.proofs.Common.{
  ◌≡◌,
  ℕ,
  zero,
  suc,
  ◌+◌,
  ◌<◌,
  Bool,
  not,
  true,
  false,
  ◌||◌,
  cond,
  List,
  [],
  ◌∷◌,
  ◌++◌,
  length,
  map,
  position,
  take,
  get_or,
  if◌then◌else◌,
  nat_lt,
  None,
  Some,
  refl,
  sym,
  ap,
  ◌∙◌,
  arith,
}
use Rattle.std.specs.List.{list_any, position_or_len, prefix_len}
use Rattle.std.specs.Str.{bytes_eq}
use Rattle.std.proofs.lemmas.Bool.{and_parts}
use Rattle.std.proofs.lemmas.Cmp.{nat_list_eq_equiv}
use Rattle.std.proofs.lemmas.List.{length-map, map_push, take_more}
use Rattle.executive_program.specs.declared.Medium.{Medium}
use Rattle.executive_program.specs.declared.Vertex.{Vertex}
use Rattle.executive_program.specs.FlatValid.{are_named_apart}

prefix_len-map : {X Y : Type 0} (f : X → Y) (p : Y → Bool) (xs : List X) → prefix_len (λ x. p (f x)) xs ≡ prefix_len p (map f xs)
prefix_len-map f p [] = refl
prefix_len-map f p (x ∷ xs) = ap (λ (n : ℕ). cond (p (f x)) (1 + n) 0) (prefix_len-map f p xs)

pub place_of_medium : (w : List ℕ) (media : List Medium) → position (λ m. bytes_eq w m.name) media ≡ position (bytes_eq w) (map (λ m. m.name) media)
place_of_medium w media =
    let lens : length (map (λ (m : Medium). m.name) media) ≡ length media = length-map media (λ (m : Medium). m.name) in
    ap (λ (n : ℕ). cond (nat_lt n (length media)) (Some n) None) (prefix_len-map (λ (m : Medium). m.name) (λ b. not (bytes_eq w b)) media)
    ∙ ap (λ (n : ℕ). cond (nat_lt (position_or_len (bytes_eq w) (map (λ (m : Medium). m.name) media)) n) (Some (position_or_len (bytes_eq w) (map (λ (m : Medium). m.name) media))) None) (sym lens)

turned : (x y : List ℕ) → bytes_eq x y ≡ false → bytes_eq y x ≡ false
turned x y h = nat_list_eq_equiv.symm y x ∙ h

either : (a b : Bool) → a ≡ false → b ≡ false → (a || b) ≡ false
either true b h k = cc
either false b h k = k

-- none of them has the name of another one
not_at : (n : List ℕ) (xs : List Vertex) (i : ℕ) (d : Vertex) → i < length xs → not (list_any (λ y. bytes_eq n y.name) xs) ≡ true → bytes_eq n (get_or xs i d).name ≡ false
not_at n [] i d h k = absurd (omega arith)
not_at n (x ∷ xs) i d h k = by (bytes_eq n x.name) refl k (λ j l m. not_at n xs j d l m) i h
  where
    by : (b : Bool) → bytes_eq n x.name ≡ b → not (b || list_any (λ y. bytes_eq n y.name) xs) ≡ true
        → ((j : ℕ) → j < length xs → not (list_any (λ y. bytes_eq n y.name) xs) ≡ true → bytes_eq n (get_or xs j d).name ≡ false)
        → (i : ℕ) → i < length (x ∷ xs) → bytes_eq n (get_or (x ∷ xs) i d).name ≡ false
    by true e k rest i h = cc
    by false e k rest zero h = e
    by false e k rest (suc i) h = rest i (omega arith) k

-- the name of an operation is none of those before it
pub is_new : (vs : List Vertex) (i : ℕ) (d : Vertex) → i < length vs → are_named_apart vs ≡ true → list_any (bytes_eq (get_or vs i d).name) (map (λ x. x.name) (take i vs)) ≡ false
is_new [] i d h k = absurd (omega arith)
is_new (v ∷ vs) zero d h k = refl
is_new (v ∷ vs) (suc i) d h k =
    let p = and_parts (not (list_any (λ y. bytes_eq v.name y.name) vs)) (are_named_apart vs) k in
    either (bytes_eq (get_or vs i d).name v.name) (list_any (bytes_eq (get_or vs i d).name) (map (λ x. x.name) (take i vs)))
    (turned v.name (get_or vs i d).name (not_at v.name vs i d (omega arith) p.0)) (is_new vs i d (omega arith) p.1)

new_last : (old new : List (List ℕ)) (w : List ℕ) (known r : Bool) → known ≡ false → r ≡ not known → new ≡ (if r then old ++ w ∷ [] else old) → new ≡ old ++ w ∷ []
new_last old new w true r h k is = cc
new_last old new w false true h k is = is
new_last old new w false false h k is = cc

-- the name of one operation more
pub name_added : (vs : List Vertex) (i : ℕ) (d : Vertex) (w : List ℕ) (names new : List (List ℕ)) (r : Bool) → are_named_apart vs ≡ true → i < length vs → d ≡ get_or vs i d → w ≡ d.name
    → names ≡ map (λ x. x.name) (take i vs) → r ≡ not (list_any (bytes_eq w) names) → new ≡ (if r then names ++ w ∷ [] else names) → new ≡ map (λ x. x.name) (take (i + 1) vs)
name_added vs i d w names new r apart below is named so_far told after =
    let same : w ≡ (get_or vs i d).name = named ∙ ap (λ (x : Vertex). x.name) is in
    let fresh : list_any (bytes_eq w) names ≡ false = rw (same, so_far) (is_new vs i d below apart) in
    let pushed : map (λ (x : Vertex). x.name) (take (i + 1) vs) ≡ map (λ (x : Vertex). x.name) (take i vs) ++ (get_or vs i d).name
    ∷ [] = ap (map (λ (x : Vertex). x.name)) (take_more vs i d below) ∙ map_push (λ (x : Vertex). x.name) (take i vs) (get_or vs i d) in
    new_last names new w (list_any (bytes_eq w) names) r fresh told after ∙ rw (so_far, same) (sym pushed)
