-- The table of makers: a copy's entry is the last one that was noted for it.
use Rattle.std.proofs.Common.{◌≡◌, ◌≢◌, ℕ, zero, suc, ◌*◌, ◌<◌, List, [], ◌∷◌, length, Some, refl, sym, ap, inl, inr, arith, ◌∙◌}
use Rattle.std.specs.Prelude.{slice_get, slice_index_or, slice_set}
use Rattle.std.proofs.lemmas.Bool.{cases_eq}
use Rattle.std.proofs.lemmas.List.{length-set, get_or-set_same, get_or-set_other, length-replicate}
use Rattle.std.proofs.lemmas.Option.{same_Some}
use Rattle.sequence_build_laws.specs.declared.Vertex.{Vertex}
use Rattle.sequence_build_laws.specs.Acts.{Copy}
use Rattle.self_timed.specs.Laid.{place, row_at, maker_in, with_maker, with_makers, empty_makers, HasPlace, HasRow, HasShape, IsHeld}

-- a copy is told by its operation and its place
pub record SamePlace (c d : Copy) : Type 0 where
  pub vertex : c.source.vertex ≡ d.source.vertex
  pub place : place c ≡ place d

pub one_place : (c d : Copy) → c.operator < 16 → d.operator < 16 → SamePlace c d → c ≡ d
one_place c d l m h =
    let p = h.place in
    let o : c.operator ≡ d.operator = omega arith in
    let q : c.source.port ≡ d.source.port = omega arith in
    let v = h.vertex in
    λ i. record { operator = o i; source = record { vertex = v i; port = q i } }

row_same : (makers : List (List ℕ)) (v : ℕ) (row : List ℕ) → v < length makers → row_at (slice_set makers v row) v ≡ row
row_same makers v row l = get_or-set_same makers v row [] l

row_other : (makers : List (List ℕ)) (v w : ℕ) (row : List ℕ) → w ≢ v → row_at (slice_set makers v row) w ≡ row_at makers w
row_other makers v w row n = get_or-set_other makers v w row [] n

-- the entry that was noted
pub noted_here : (makers : List (List ℕ)) (c : Copy) (e : ℕ) → HasPlace makers c → maker_in (with_maker makers c e) c ≡ e
noted_here makers c e h =
    ap (λ (r : List ℕ). slice_index_or r (place c) 0) (row_same makers c.source.vertex (slice_set (row_at makers c.source.vertex) (place c) e) h.row)
    ∙ get_or-set_same (row_at makers c.source.vertex) (place c) e 0 h.place

-- another copy's entry stays
pub noted_there : (makers : List (List ℕ)) (c d : Copy) (e : ℕ) → (SamePlace d c → ⊥) → d.source.vertex < length makers → maker_in (with_maker makers c e) d ≡ maker_in makers d
noted_there makers c d e apart l = elim (cases_eq d.source.vertex c.source.vertex) [
  | inl v ↦ (
      let n : place d ≢ place c = λ q. apart (record { vertex = v; place = q }) in
      let low : c.source.vertex < length makers = omega arith in
      ap (λ (w : ℕ). maker_in (with_maker makers c e) (record { operator = d.operator; source = record { vertex = w; port = d.source.port } })) v
      ∙ ap (λ (r : List ℕ). slice_index_or r (place d) 0) (row_same makers c.source.vertex (slice_set (row_at makers c.source.vertex) (place c) e) low)
      ∙ get_or-set_other (row_at makers c.source.vertex) (place c) (place d) e 0 n
      ∙ ap (λ (w : ℕ). slice_index_or (row_at makers w) (place d) 0) (sym v))
  | inr n ↦ ap (λ (r : List ℕ). slice_index_or r (place d) 0) (row_other makers c.source.vertex d.source.vertex (slice_set (row_at makers c.source.vertex) (place c) e) n)
]

-- rows keep their lengths
pub row_kept : (makers : List (List ℕ)) (c : Copy) (e v : ℕ) → length (row_at (with_maker makers c e) v) ≡ length (row_at makers v)
row_kept makers c e v = elim (cases_eq v c.source.vertex) [
  | inl q ↦ by q
  | inr n ↦ ap length (row_other makers c.source.vertex v (slice_set (row_at makers c.source.vertex) (place c) e) n)
]
  where
    set_row : (rows : List (List ℕ)) (w : ℕ) (row : List ℕ) → length row ≡ length (row_at rows w) → length (row_at (slice_set rows w row) w) ≡ length (row_at rows w)
    set_row [] w row h = refl
    set_row (r ∷ rows) zero row h = h
    set_row (r ∷ rows) (suc w) row h = set_row rows w row h

    by : v ≡ c.source.vertex → length (row_at (with_maker makers c e) v) ≡ length (row_at makers v)
    by q =
        ap (λ (w : ℕ). length (row_at (with_maker makers c e) w)) q
        ∙ set_row makers c.source.vertex (slice_set (row_at makers c.source.vertex) (place c) e) (length-set (row_at makers c.source.vertex) (place c) e)
        ∙ ap (λ (w : ℕ). length (row_at makers w)) (sym q)

pub place_kept : (makers : List (List ℕ)) (c d : Copy) (e : ℕ) → HasPlace makers d → HasPlace (with_maker makers c e) d
place_kept makers c d e h = record {
  row = (let l = h.row in let z = length-set makers c.source.vertex (slice_set (row_at makers c.source.vertex) (place c) e) in omega arith);
  place = (let l = h.place in let z = row_kept makers c e d.source.vertex in omega arith);
}

pub has_row_kept : (makers : List (List ℕ)) (c : Copy) (e v outs : ℕ) → HasRow makers v outs → HasRow (with_maker makers c e) v outs
has_row_kept makers c e v outs h = record {
  row = (let l = h.row in let z = length-set makers c.source.vertex (slice_set (row_at makers c.source.vertex) (place c) e) in omega arith);
  long = row_kept makers c e v ∙ h.long;
}

pub shape_kept : (vertices : List Vertex) (makers : List (List ℕ)) (c : Copy) (e : ℕ) → HasShape vertices makers → HasShape vertices (with_maker makers c e)
shape_kept vertices makers c e h = record { rows = λ v x s. has_row_kept makers c e v (length x.outs) (h.rows v x s) }

pub shape_kept_all : (vertices : List Vertex) (makers : List (List ℕ)) (cs : List Copy) (e : ℕ) → HasShape vertices makers → HasShape vertices (with_makers makers cs e)
shape_kept_all vertices makers [] e h = h
shape_kept_all vertices makers (c ∷ cs) e h = shape_kept_all vertices (with_maker makers c e) cs e (shape_kept vertices makers c e h)

-- a copy that may be held has a place
pub held_place : (vertices : List Vertex) (makers : List (List ℕ)) (c : Copy) → HasShape vertices makers → IsHeld vertices c → HasPlace makers c
held_place vertices makers c shape h =
    let r = shape.rows c.source.vertex h.it h.there in
    record { row = r.row; place = (let p = h.port in let o = h.operator in let l = r.long in omega arith) }

pub started_shape : (vertices : List Vertex) → HasShape vertices (empty_makers vertices)
started_shape vertices = record { rows = λ v x e. record { row = within vertices v x e; long = long vertices v x e } }
  where
    within : (vs : List Vertex) (v : ℕ) (x : Vertex) → slice_get vs v ≡ Some x → v < length (empty_makers vs)
    within [] v x e = absurd cc
    within (y ∷ vs) zero x e = omega arith
    within (y ∷ vs) (suc v) x e = let z = within vs v x e in omega arith

    long : (vs : List Vertex) (v : ℕ) (x : Vertex) → slice_get vs v ≡ Some x → length (row_at (empty_makers vs) v) ≡ length x.outs * 16
    long [] v x e = absurd cc
    long (y ∷ vs) zero x e = length-replicate (length y.outs * 16) 0 ∙ ap (λ (z : Vertex). length z.outs * 16) (same_Some y x e)
    long (y ∷ vs) (suc v) x e = long vs v x e

-- The copies that one act makes.
pub noted_again : (makers : List (List ℕ)) (c d : Copy) (e : ℕ) → HasPlace makers d → HasPlace makers c → maker_in makers d ≡ e
    → d.operator < 16 → c.operator < 16 → maker_in (with_maker makers c e) d ≡ e
noted_again makers c d e h g is l m = elim (cases_eq d.source.vertex c.source.vertex) [
  | inl v ↦ elim (cases_eq (place d) (place c)) [
    | inl p ↦ (let same = one_place d c l m (record { vertex = v; place = p }) in ap (maker_in (with_maker makers c e)) same ∙ noted_here makers c e g)
    | inr n ↦ noted_there makers c d e (λ s. n s.place) h.row ∙ is
  ]
  | inr n ↦ noted_there makers c d e (λ s. n s.vertex) h.row ∙ is
]

pub noted_all_still : (makers : List (List ℕ)) (cs : List Copy) (d : Copy) (e : ℕ) → HasPlace makers d
    → ((h : ℕ) (c : Copy) → slice_get cs h ≡ Some c → HasPlace makers c × (c.operator < 16)) → d.operator < 16 → maker_in makers d ≡ e
    → maker_in (with_makers makers cs e) d ≡ e
noted_all_still makers [] d e has all l is = is
noted_all_still makers (c ∷ cs) d e has all l is =
    let one = all 0 c refl in
    noted_all_still (with_maker makers c e) cs d e (place_kept makers c d e has)
    (λ h b s. let r = all (suc h) b s in (place_kept makers c b e r.0, r.1)) l (noted_again makers c d e has one.0 is l one.1)

pub noted_all_here : (makers : List (List ℕ)) (cs : List Copy) (e k : ℕ) (d : Copy) → slice_get cs k ≡ Some d
    → ((h : ℕ) (c : Copy) → slice_get cs h ≡ Some c → HasPlace makers c × (c.operator < 16)) → maker_in (with_makers makers cs e) d ≡ e
noted_all_here makers [] e k d s all = absurd cc
noted_all_here makers (c ∷ cs) e zero d s all =
    let one = all 0 c refl in
    let same : c ≡ d = same_Some c d s in
    ap (λ (b : Copy). maker_in (with_makers (with_maker makers c e) cs e) b) (sym same)
    ∙ noted_all_still (with_maker makers c e) cs c e (place_kept makers c c e one.0) (λ h b s. let r = all (suc h) b s in (place_kept makers c b e r.0, r.1)) one.1 (noted_here makers c e one.0)
noted_all_here makers (c ∷ cs) e (suc k) d s all = noted_all_here (with_maker makers c e) cs e k d s (λ h b s. let r = all (suc h) b s in (place_kept makers c b e r.0, r.1))

pub noted_all_there : (makers : List (List ℕ)) (cs : List Copy) (d : Copy) (e : ℕ)
    → ((h : ℕ) (c : Copy) → slice_get cs h ≡ Some c → SamePlace d c → ⊥) → d.source.vertex < length makers
    → maker_in (with_makers makers cs e) d ≡ maker_in makers d
noted_all_there makers [] d e apart l = refl
noted_all_there makers (c ∷ cs) d e apart l =
    let size = length-set makers c.source.vertex (slice_set (row_at makers c.source.vertex) (place c) e) in
    noted_all_there (with_maker makers c e) cs d e (λ h b s. apart (suc h) b s) (omega arith) ∙ noted_there makers c d e (apart 0 c refl) l
