-- The made tree has names where names stand, and numbers of 32 bits.
use Rattle.std.proofs.Common.{◌≡◌, ◌<◌, ℕ, zero, suc, true, List, [], ◌∷◌, ◌++◌, length, map, Option, Some, None, slice_index_or, codes, refl, sym, subst, arith}
use Rattle.std.proofs.lemmas.List.{map-append}
use Rattle.std.specs.List.{list_all}
use Rattle.std.proofs.lemmas.Bool.{and_parts}
use Rattle.syn_base.specs.Name.{is_name_byte, begins_name}
use Rattle.algo_tree.specs.Tree.{Label, Vertex, vertex, Vertices, no_vertices, and_vertex}
use Rattle.algo_tree.specs.Meaning.{vertices_in}
use Rattle.algo_tree.specs.View.{vertices_of}
use Rattle.algo_tree.specs.Named.{is_word, AreNames, IsNamed, AllNamed, HasNames}
use Rattle.algo_tree.specs.Bounded.{IsBounded, AllBounded, HasBounds}
use Rattle.multi_period.specs.declared.mark.Mark.{Mark}
use Rattle.multi_period.specs.Marks.{mark_at, IsMark, MayHave, AreMarked}
use Rattle.multi_period.specs.Periods.{keep, body, period, period_by, all_periods, periods}
use Rattle.syn_base.specs.Numbers.{numbers_below}

name-at : (names : List (List ℕ)) (i : ℕ) → AreNames names → i < length names → is_word (slice_index_or names i []) ≡ true
name-at [] i h lt = absurd (omega arith)
name-at (x ∷ names) zero h lt = h.0
name-at (x ∷ names) (suc i) h lt = name-at names i h.1 (omega arith)

keep-word : (x : List ℕ) → is_word x ≡ true → is_word (codes "keep_" ++ x) ≡ true
keep-word x h = (and_parts (begins_name x) (list_all is_name_byte x) h).1

named-append : (xs ys : List Vertex) → AllNamed (vertices_of xs) → AllNamed (vertices_of ys) → AllNamed (vertices_of (xs ++ ys))
named-append [] ys h k = k
named-append (x ∷ xs) ys h k = (h.0, named-append xs ys h.1 k)

named-keeps : (l : Label) (n : ℕ) → AreNames l.names → ((i : ℕ) → i < n → i < length l.names) → AllNamed (vertices_of (map (keep l) (numbers_below n)))
named-keeps l zero h inside = tt
named-keeps l (suc n) h inside =
    subst (λ vs. AllNamed (vertices_of vs)) (sym (map-append (keep l) (numbers_below n) (n ∷ [])))
    (named-append (map (keep l) (numbers_below n)) (keep l n ∷ []) (named-keeps l n h (λ i lt. inside i (omega arith)))
    ((record { part = keep-word (slice_index_or l.names n []) (name-at l.names n h (inside n (omega arith))); definition = refl; kind = tt }, tt), tt))

module _ (m : Mark) (l : Label) (us : Vertices) (h : IsMark m l) where
  named-period : IsNamed (vertex l us) → IsNamed (period m l us)
  named-period named = (
    record { part = named.0.part; definition = named.0.definition; kind = tt },
    (
      (record { part = refl; definition = refl; kind = tt }, tt),
      named-append (map (keep l) (numbers_below (length l.outs))) (body l us ∷ [])
          (named-keeps l (length l.outs) h.words (λ i lt. let e = h.named in omega (arith, e, lt))) (
            (
              record { part = refl; definition = refl; kind = h.words },
              (
                (record { part = tt; definition = refl; kind = tt }, ((record { part = refl; definition = named.0.definition; kind = named.0.kind }, named.1), tt)),
                ((record { part = tt; definition = refl; kind = tt }, tt), tt),
              ),
            ),
            tt,
          ),
    ),
  )

pub named-made : (mark : ℕ → Option Mark) (us : Vertices) → AreMarked mark us → AllNamed us → AllNamed (all_periods mark us)
named-made mark no_vertices may h = tt
named-made mark (and_vertex (vertex l vs) us) may h = (here (mark 0) may.0, named-made (λ r. mark (suc r)) us may.1 h.1)
  where
    here : (o : Option Mark) → MayHave o l → IsNamed (period_by o (vertex l vs))
    here None k = h.0
    here (Some m) k = named-period m l vs k h.0

pub names-keep : (marks : List Mark) (main : Vertex) → AreMarked (mark_at marks) (vertices_in main) → HasNames main → HasNames (periods marks main)
names-keep marks (vertex l us) may h = named-made (mark_at marks) us may h

-- numbers
bounded-append : (xs ys : List Vertex) → AllBounded (vertices_of xs) → AllBounded (vertices_of ys) → AllBounded (vertices_of (xs ++ ys))
bounded-append [] ys h k = k
bounded-append (x ∷ xs) ys h k = (h.0, bounded-append xs ys h.1 k)

bounded-keeps : (l : Label) (is : List ℕ) → AllBounded (vertices_of (map (keep l) is))
bounded-keeps l [] = tt
bounded-keeps l (i ∷ is) = ((record { part = tt; kind = tt }, tt), bounded-keeps l is)

bounded-period : (m : Mark) (l : Label) (us : Vertices) → IsBounded (vertex l us) → IsBounded (period m l us)
bounded-period m l us h = (
  record { part = h.0.part; kind = tt },
  (
    (record { part = tt; kind = tt }, tt),
    bounded-append (map (keep l) (numbers_below (length l.outs))) (body l us ∷ []) (bounded-keeps l (numbers_below (length l.outs))) (
      (
        record { part = tt; kind = tt },
        ((record { part = omega arith; kind = tt }, ((record { part = tt; kind = h.0.kind }, h.1), tt)), ((record { part = omega arith; kind = tt }, tt), tt)),
      ),
      tt,
    ),
  ),
)

pub bounded-made : (mark : ℕ → Option Mark) (us : Vertices) → AllBounded us → AllBounded (all_periods mark us)
bounded-made mark no_vertices h = tt
bounded-made mark (and_vertex (vertex l vs) us) h = (here (mark 0), bounded-made (λ r. mark (suc r)) us h.1)
  where
    here : (o : Option Mark) → IsBounded (period_by o (vertex l vs))
    here None = h.0
    here (Some m) = bounded-period m l vs h.0

pub bounds-keep : (marks : List Mark) (main : Vertex) → HasBounds main → HasBounds (periods marks main)
bounds-keep marks (vertex l us) h = bounded-made (mark_at marks) us h
