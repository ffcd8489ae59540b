-- A level whose vertices stand under guards does what it did before.
use Rattle.std.proofs.Common.{◌≡◌, ℕ, zero, suc, ◌+◌, ◌==◌, List, [], ◌∷◌, ◌++◌, length, map, Bool, true, false, cond, ◌&&◌, Option, Some, slice_get, refl, ap, ap₂, ◌∙◌, arith}
use mathlib.Core.Path.{fun_ext}
use Rattle.algo_tree.specs.declared.Source.{Source}
use Rattle.algo_tree.specs.declared.Source.TheVariants.{Own, Of}
use Rattle.algo_tree.specs.declared.Guard.{Guard}
use Rattle.algo_tree.specs.declared.Part.{Part}
use Rattle.algo_tree.specs.Level.{
  State,
  Path,
  Node,
  below,
  selected,
  source_value,
  all_hold,
  with_node,
  same_part,
  find_node,
  node_outputs,
  node_next,
  out,
  level_value,
  graph_outputs,
  graph_next,
  graph_initial,
}
use Rattle.algo_tree.proofs.SameParts.{same_means}
use Rattle.flat_laws.specs.Guarded.{shift, guard_sources, own_guards}
use Rattle.algo_tree.proofs.Lists.{append_right}
use Rattle.syn_base.specs.Vectors.{Vector, Values, vector_at, zeros}

-- what looks at the sources of the new level sees what was seen at those of the old
abbrev pub Follows : ℕ → (Source → Vector) → (Source → Vector) → Type 0
Follows n look look' = (s : Source) → look' (shift n s) ≡ look s

-- d does what c does where the guards hold, and changes nothing below it where one does not
pub record Under (gs : List Guard) (n : ℕ) (c d : Node) : Type 0 where
  pub part : d.part ≡ c.part
  pub outs : d.outs ≡ c.outs
  pub first : d.does.initial ≡ c.does.initial
  pub outputs : (row : Values) (st : State) (look look' : Source → Vector) → Follows n look look' → all_hold look' gs ≡ true → node_outputs row st look' d ≡ node_outputs row st look c
  pub next : (row : Values) (st : State) (look look' : Source → Vector) → Follows n look look' → all_hold look' gs ≡ true → node_next row st look' d ≡ node_next row st look c
  pub idle : (row : Values) (st : State) (look' : Source → Vector) → all_hold look' gs ≡ false → node_next row st look' d ≡ st

abbrev pub AllUnder : List Guard → ℕ → List Node → List Node → Type 0
AllUnder gs n [] [] = Unit {0}
AllUnder gs n [] (d ∷ ds) = ⊥
AllUnder gs n (c ∷ cs) [] = ⊥
AllUnder gs n (c ∷ cs) (d ∷ ds) = Under gs n c d × AllUnder gs n cs ds

pub hold-append : (f : Source → Vector) (gs hs : List Guard) → all_hold f (gs ++ hs) ≡ (all_hold f gs && all_hold f hs)
hold-append f [] hs = refl
hold-append f (g ∷ gs) hs = ap (λ b. (selected g.values (f g.source) == g.case) && b) (hold-append f gs hs) ∙ and_assoc (selected g.values (f g.source) == g.case) (all_hold f gs) (all_hold f hs)
  where
    and_assoc : (a b c : Bool) → (a && (b && c)) ≡ ((a && b) && c)
    and_assoc true b c = refl
    and_assoc false b c = refl

-- guards that were handed inward hold where they held outside
pub own-hold : (look : Source → Vector) (xs ins : Values) (given : ℕ → Values) (i : ℕ) (gs : List Guard) → i ≡ length xs
    → all_hold (source_value (xs ++ (map look (guard_sources gs) ++ ins)) given) (own_guards i gs) ≡ all_hold look gs
own-hold look xs ins given i [] e = refl
own-hold look xs ins given i (g ∷ gs) e =
    let rest = map look (guard_sources gs) ++ ins in
    let here : vector_at (xs ++ (look g.source ∷ rest)) i ≡ look g.source = ap (vector_at (xs ++ (look g.source ∷ rest))) (e ∙ omega arith) ∙ append_right xs (look g.source ∷ rest) 0 [] in
    let all : xs ++ (look g.source ∷ rest) ≡ (xs ++ look g.source ∷ []) ++ rest = snoc xs (look g.source) rest in
    let later : all_hold (source_value (xs ++ (look g.source ∷ rest)) given) (own_guards (suc i) gs) ≡ all_hold look gs =
    ap (λ vs. all_hold (source_value vs given) (own_guards (suc i) gs)) all ∙ own-hold look (xs ++ look g.source ∷ []) ins given (suc i) gs (ap suc e ∙ long xs (look g.source)) in
    ap₂ (λ v b. (selected g.values v == g.case) && b) here later
  where
    snoc : (xs : Values) (v : Vector) (rest : Values) → xs ++ (v ∷ rest) ≡ (xs ++ v ∷ []) ++ rest
    snoc [] v rest = refl
    snoc (x ∷ xs) v rest = ap (λ ys. x ∷ ys) (snoc xs v rest)

    long : (xs : Values) (v : Vector) → suc (length xs) ≡ length (xs ++ v ∷ [])
    long [] v = refl
    long (x ∷ xs) v = ap suc (long xs v)

module _ {A : Type 0} (gs : List Guard) (n : ℕ) (G F : Node → A) (a : A) (same : (c d : Node) → Under gs n c d → G d ≡ F c) where
  pub at_pair : (cs ds : List Node) → AllUnder gs n cs ds → (r : ℕ) → with_node (slice_get ds r) a G ≡ with_node (slice_get cs r) a F
  at_pair [] [] h r = refl
  at_pair [] (d ∷ ds) h r = absurd h
  at_pair (c ∷ cs) [] h r = absurd h
  at_pair (c ∷ cs) (d ∷ ds) h zero = same c d h.0
  at_pair (c ∷ cs) (d ∷ ds) h (suc r) = at_pair cs ds h.1 r

  either : (b : Bool) (c d : Node) (o o' : Option Node) → Under gs n c d → with_node o' a G ≡ with_node o a F → with_node (cond b (Some d) o') a G ≡ with_node (cond b (Some c) o) a F
  either true c d o o' u later = same c d u
  either false c d o o' u later = later

  pub at_part : (p : Part) (cs ds : List Node) → AllUnder gs n cs ds → with_node (find_node p ds) a G ≡ with_node (find_node p cs) a F
  at_part p [] [] h = refl
  at_part p [] (d ∷ ds) h = absurd h
  at_part p (c ∷ cs) [] h = absurd h
  at_part p (c ∷ cs) (d ∷ ds) h =
      ap (λ x. with_node (cond (same_part x p) (Some d) (find_node p ds)) a G) h.0.part ∙ either (same_part c.part p) c d (find_node p cs) (find_node p ds) h.0 (at_part p cs ds h.1)

pub same_length : (gs : List Guard) (n : ℕ) (cs ds : List Node) → AllUnder gs n cs ds → length ds ≡ length cs
same_length gs n [] [] h = refl
same_length gs n [] (d ∷ ds) h = absurd h
same_length gs n (c ∷ cs) [] h = absurd h
same_length gs n (c ∷ cs) (d ∷ ds) h = ap suc (same_length gs n cs ds h.1)

-- each vertex changes nothing below it
abbrev pub AllStill : Values → State → (Source → Vector) → List Node → Type 0
AllStill row st look [] = Unit {0}
AllStill row st look (d ∷ ds) = (node_next row (below d.part st) look d ≡ below d.part st) × AllStill row st look ds

module _ (row : Values) (st : State) (look : Source → Vector) (p : Part) (q : Path) where
  abbrev pub at_found : Option Node → List Vector
  at_found o = with_node o (st (p ∷ q)) (λ d. node_next row (below d.part st) look d q)

  pub still_here : (b : Bool) (d : Node) (o : Option Node) → same_part d.part p ≡ b → node_next row (below d.part st) look d
      ≡ below d.part st → at_found o ≡ st (p ∷ q) → at_found (cond b (Some d) o) ≡ st (p ∷ q)
  still_here true d o e h later = ap (λ s. s q) h ∙ ap (λ x. st (x ∷ q)) (same_means d.part p e)
  still_here false d o e h later = later

  pub still_found : (ds : List Node) → AllStill row st look ds → at_found (find_node p ds) ≡ st (p ∷ q)
  still_found [] h = refl
  still_found (d ∷ ds) h = still_here (same_part d.part p) d (find_node p ds) refl h.0 (still_found ds h.1)

pub graph-still : (row : Values) (st : State) (ins : Values) (ds : List Node) → AllStill row st (level_value ds row st ins) ds → graph_next ds row st ins ≡ st
graph-still row st ins ds h = fun_ext by_path
  where
    by_path : (q : Path) → graph_next ds row st ins q ≡ st q
    by_path [] = refl
    by_path (p ∷ q) = still_found row st (level_value ds row st ins) p q ds h

pub idle-still : (gs : List Guard) (n : ℕ) (row : Values) (st : State) (look : Source → Vector) (cs ds : List Node) → AllUnder gs n cs ds → all_hold look gs ≡ false → AllStill row st look ds
idle-still gs n row st look [] [] h e = tt
idle-still gs n row st look [] (d ∷ ds) h e = absurd h
idle-still gs n row st look (c ∷ cs) [] h e = absurd h
idle-still gs n row st look (c ∷ cs) (d ∷ ds) h e = (h.0.idle row (below d.part st) look e, idle-still gs n row st look cs ds h.1 e)

-- a level where all guards hold
module _ (gs : List Guard) (n : ℕ) (cs ds : List Node) (h : AllUnder gs n cs ds) where
  pub first-same : graph_initial ds ≡ graph_initial cs
  first-same = fun_ext by_path
    where
      by_path : (q : Path) → graph_initial ds q ≡ graph_initial cs q
      by_path [] = refl
      by_path (p ∷ q) = at_part gs n (λ d. d.does.initial q) (λ c. c.does.initial q) [] (λ c d u. ap (λ s. s q) u.first) p cs ds h

  module _ (row : Values) (st : State) (ins ins' : Values) (own : (k : ℕ) → vector_at ins' (n + k) ≡ vector_at ins k)
      (holds : (given : ℕ → Values) → all_hold (source_value ins' given) gs ≡ true) where
    follows_by : (f g : ℕ → Values) → ((r : ℕ) → g r ≡ f r) → Follows n (source_value ins f) (source_value ins' g)
    follows_by f g same (Own k) = own k
    follows_by f g same (Of r p) = ap (λ vs. vector_at vs p) (same r)

    pub out-same : (fuel r : ℕ) → out ds row st ins' fuel r ≡ out cs row st ins fuel r
    out-same zero r = at_pair gs n (λ d. map zeros d.outs) (λ c. map zeros c.outs) [] (λ c d u. ap (map zeros) u.outs) cs ds h r
    out-same (suc fuel) r =
        let f = out cs row st ins fuel in
        let g = out ds row st ins' fuel in
        at_pair gs n (λ d. node_outputs row (below d.part st) (source_value ins' g) d) (λ c. node_outputs row (below c.part st) (source_value ins f) c) []
        (λ c d u. ap (λ p. node_outputs row (below p st) (source_value ins' g) d) u.part
        ∙ u.outputs row (below c.part st) (source_value ins f) (source_value ins' g) (follows_by f g (out-same fuel)) (holds g))
        cs ds h r

    pub level-follows : Follows n (level_value cs row st ins) (level_value ds row st ins')
    level-follows = follows_by _ _ (λ r. ap (λ k. out ds row st ins' k r) (same_length gs n cs ds h) ∙ out-same (length cs) r)

    pub graph_next-same : graph_next ds row st ins' ≡ graph_next cs row st ins
    graph_next-same = fun_ext by_path
      where
        by_path : (q : Path) → graph_next ds row st ins' q ≡ graph_next cs row st ins q
        by_path [] = refl
        by_path (p ∷ q) = at_part gs n (λ d. node_next row (below d.part st) (level_value ds row st ins') d q) (λ c. node_next row (below c.part st) (level_value cs row st ins) c q) (st (p ∷ q))
            (λ c d u. ap (λ x. node_next row (below x st) (level_value ds row st ins') d q) u.part
            ∙ ap (λ s. s q) (u.next row (below c.part st) (level_value cs row st ins) (level_value ds row st ins') level-follows (holds _)))
            p cs ds h

    pub graph_outputs-same : (outs : List Source) → graph_outputs (map (shift n) outs) ds row st ins' ≡ graph_outputs outs cs row st ins
    graph_outputs-same [] = refl
    graph_outputs-same (s ∷ outs) = ap₂ (λ v vs. v ∷ vs) (level-follows s) (graph_outputs-same outs)
