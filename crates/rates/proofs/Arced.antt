-- The acts to which arcs lead from a reaction are what must precede an act there.
use Rattle.std.proofs.Common.{◌≡◌, ℕ, zero, suc, ◌≤◌, Bool, true, false, cond, List, [], ◌∷◌, ◌++◌, map, take, Option, Some, None, refl, sym, ap, arith, ◌∙◌}
use Rattle.std.specs.Prelude.{slice_get, nat_le, ◌-◌}
use Rattle.std.proofs.lemmas.Bool.{leb-true, le-leb}
use Rattle.std.proofs.lemmas.Option.{same_Some}
use Rattle.self_timed.specs.declared.Vertex.{Vertex}
use Rattle.self_timed.specs.Acts.{Act}
use Rattle.self_timed.specs.Tight.{same_line, reads_from}
use Rattle.self_timed.specs.Serial.{numbers_where}
use Rattle.self_timed.specs.Dates.{Event, event, last_where, latest_of, ago, has_reader, needs}
use Rattle.rates.specs.declared.table.Arc.{Arc}
use Rattle.rates.specs.Arcs.{arc, latest_arc, arcs, back_from}

back-append : (k : ℕ) (xs ys : List Arc) → back_from k (xs ++ ys) ≡ back_from k xs ++ back_from k ys
back-append k [] ys = refl
back-append k (a ∷ xs) ys = by (nat_le a.lag k) (back-append k xs ys)
  where
    by : (b : Bool) → back_from k (xs ++ ys) ≡ back_from k xs ++ back_from k ys
        → cond b (event (k - a.lag) a.act ∷ back_from k (xs ++ ys)) (back_from k (xs ++ ys))
        ≡ cond b (event (k - a.lag) a.act ∷ back_from k xs) (back_from k xs) ++ back_from k ys
    by true e = ap (λ (l : List Event). event (k - a.lag) a.act ∷ l) e
    by false e = e

back_ago : (k d : ℕ) (ns : List ℕ) → back_from k (map (arc d) ns) ≡ ago d k ns
back_ago k d [] = by (nat_le d k)
  where
    by : (b : Bool) → [] ≡ cond b (map (event (k - d)) []) []
    by true = refl
    by false = refl
back_ago k d (n ∷ ns) = by (nat_le d k) (back_ago k d ns)
  where
    by : (b : Bool) → back_from k (map (arc d) ns) ≡ cond b (map (event (k - d)) ns) []
        → cond b (event (k - d) n ∷ back_from k (map (arc d) ns)) (back_from k (map (arc d) ns)) ≡ cond b (event (k - d) n ∷ map (event (k - d)) ns) []
    by true e = ap (λ (l : List Event). event (k - d) n ∷ l) e
    by false e = e

ago_none : (k : ℕ) (ns : List ℕ) → ago 0 k ns ≡ map (event k) ns
ago_none k ns =
    let zero_off : k - 0 ≡ k = omega arith in
    ap (λ (b : Bool). cond b (map (event (k - 0)) ns) []) (le-leb 0 k (omega arith)) ∙ ap (λ (j : ℕ). map (event j) ns) zero_off

back_line : (k : ℕ) (o l : Option ℕ) → back_from k (latest_arc o l) ≡ latest_of k o l
back_line k (Some i) l = back_ago k 0 (i ∷ []) ∙ ago_none k (i ∷ [])
back_line zero None None = refl
back_line (suc k) None None = refl
back_line zero None (Some i) = refl
back_line (suc k) None (Some i) =
    let one_off : suc k - 1 ≡ k = omega arith in
    ap (λ (b : Bool). cond b (event (suc k - 1) i ∷ []) []) (le-leb 1 (suc k) (omega arith)) ∙ ap (λ (j : ℕ). event j i ∷ []) one_off

-- if an arc leads to a reaction that is there, its act is among those to which they lead
pub back_at : (k : ℕ) (xs : List Arc) (r : ℕ) (a : Arc) → slice_get xs r ≡ Some a → a.lag ≤ k → (q : ℕ) × (slice_get (back_from k xs) q ≡ Some (event (k - a.lag) a.act))
back_at k [] r a e l = absurd cc
back_at k (b ∷ xs) zero a e l =
    let same = same_Some b a e in
    let there = ap (λ (c : Arc). nat_le c.lag k) same ∙ le-leb a.lag k l in
    (0, ap (λ (t : Bool). slice_get (cond t (event (k - b.lag) b.act ∷ back_from k xs) (back_from k xs)) 0) there ∙ ap (λ (c : Arc). Some (event (k - c.lag) c.act)) same)
back_at k (b ∷ xs) (suc r) a e l = by (nat_le b.lag k) (back_at k xs r a e l)
  where
    by : (t : Bool) → (q : ℕ) × (slice_get (back_from k xs) q ≡ Some (event (k - a.lag) a.act)) → (q : ℕ)
        × (slice_get (cond t (event (k - b.lag) b.act ∷ back_from k xs) (back_from k xs)) q ≡ Some (event (k - a.lag) a.act))
    by true w = (suc w.0, w.1)
    by false w = w

-- the arc that leads to an event
pub record FromArc (k : ℕ) (xs : List Arc) (e : Event) : Type 0 where
  pub at : ℕ
  pub it : Arc
  pub there : slice_get xs at ≡ Some it
  pub reaches : it.lag ≤ k
  pub reaction : e.reaction ≡ k - it.lag
  pub act : e.act ≡ it.act

pub from_arc : (k : ℕ) (xs : List Arc) (r : ℕ) (e : Event) → slice_get (back_from k xs) r ≡ Some e → FromArc k xs e
from_arc k [] r e h = absurd cc
from_arc k (b ∷ xs) r e h = by (nat_le b.lag k) refl r h (λ q m. from_arc k xs q e m)
  where
    further : FromArc k xs e → FromArc k (b ∷ xs) e
    further f = record { at = suc f.at; it = f.it; there = f.there; reaches = f.reaches; reaction = f.reaction; act = f.act }

    by : (t : Bool) → nat_le b.lag k ≡ t → (r : ℕ) → slice_get (cond t (event (k - b.lag) b.act ∷ back_from k xs) (back_from k xs)) r ≡ Some e
        → ((q : ℕ) → slice_get (back_from k xs) q ≡ Some e → FromArc k xs e) → FromArc k (b ∷ xs) e
    by true t zero h f =
        let same = same_Some (event (k - b.lag) b.act) e h in
        record { at = 0; it = b; there = refl; reaches = leb-true b.lag k t; reaction = ap (λ (w : Event). w.reaction) (sym same); act = ap (λ (w : Event). w.act) (sym same) }
    by true t (suc r) h f = further (f r h)
    by false t r h f = further (f r h)

module _ (depth : ℕ) (vertices : List Vertex) (xs : List Act) where
  -- the three parts of the arcs: the act before it in line, those that make what it reads, and the readers of what it makes
  parts_are : (k : ℕ) (o l : Option ℕ) (made readers : List ℕ)
      → back_from k (latest_arc o l ++ (map (arc 0) made ++ map (arc depth) readers)) ≡ latest_of k o l ++ (map (event k) made ++ ago depth k readers)
  parts_are k o l made readers =
      back-append k (latest_arc o l) (map (arc 0) made ++ map (arc depth) readers)
      ∙ ap (λ (es : List Event). es ++ back_from k (map (arc 0) made ++ map (arc depth) readers)) (back_line k o l)
      ∙ ap (λ (es : List Event). latest_of k o l ++ es) (back-append k (map (arc 0) made) (map (arc depth) readers))
      ∙ ap (λ (es : List Event). latest_of k o l ++ (es ++ back_from k (map (arc depth) readers))) (back_ago k 0 made ∙ ago_none k made)
      ∙ ap (λ (es : List Event). latest_of k o l ++ (map (event k) made ++ es)) (back_ago k depth readers)

  pub arcs_are_needs : (k i : ℕ) (x : Act) → back_from k (arcs depth vertices xs i x) ≡ needs depth vertices xs k i x
  arcs_are_needs k i x = parts_are k (last_where (same_line x) 0 (take i xs)) (last_where (same_line x) 0 xs)
      (numbers_where (reads_from vertices x) 0 (take i xs)) (numbers_where (has_reader vertices x) 0 xs)

  -- each arc of an act leads to an event that must precede it, and an arc leads to each such event
  pub to_need : (k i : ℕ) (x : Act) (r : ℕ) (a : Arc) → slice_get (arcs depth vertices xs i x) r ≡ Some a → a.lag ≤ k → (q : ℕ)
      × (slice_get (needs depth vertices xs k i x) q ≡ Some (event (k - a.lag) a.act))
  to_need k i x r a e l = let w = back_at k (arcs depth vertices xs i x) r a e l in (w.0, ap (λ (es : List Event). slice_get es w.0) (sym (arcs_are_needs k i x)) ∙ w.1)

  pub of_need : (k i : ℕ) (x : Act) (r : ℕ) (e : Event) → slice_get (needs depth vertices xs k i x) r ≡ Some e → FromArc k (arcs depth vertices xs i x) e
  of_need k i x r e h = from_arc k (arcs depth vertices xs i x) r e (ap (λ (es : List Event). slice_get es r) (arcs_are_needs k i x) ∙ h)
