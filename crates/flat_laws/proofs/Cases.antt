-- A switch and its graph of guarded cases and merges do the same.
use Rattle.std.proofs.Common.{
  ◌≡◌,
  ◌≢◌,
  ℤ,
  ℕ,
  zero,
  suc,
  ◌+◌,
  ◌<◌,
  ◌≤◌,
  ◌==◌,
  inl,
  inr,
  List,
  [],
  ◌∷◌,
  ◌++◌,
  length,
  get_or,
  slice_index_or,
  map,
  Bool,
  true,
  false,
  cond,
  ◌&&◌,
  Option,
  Some,
  slice_get,
  refl,
  sym,
  ap,
  ap₂,
  ◌∙◌,
  subst,
  arith,
  eq-eqb,
  zero-add,
}
use Rattle.std.proofs.Math.Bool.{and-true, and-false}
use mathlib.Core.Path.{fun_ext}
use Rattle.std.proofs.lemmas.List.{map-append}
use Rattle.std.proofs.lemmas.Bool.{cases_lt, false≢true}
use Rattle.std.proofs.lemmas.Bool.Decides.{eqb_tells}
use Rattle.std.specs.Ordering.{int_eq}
use Rattle.algo_tree.specs.declared.Source.{Source}
use Rattle.algo_tree.specs.declared.Source.TheVariants.{Own, Of}
use Rattle.algo_tree.specs.declared.Guard.{Guard}
use Rattle.algo_tree.specs.declared.Part.{Part}
use Rattle.algo_tree.specs.declared.Part.TheVariants.{Port}
use Rattle.algo_tree.specs.Level.{
  State,
  Path,
  Node,
  below,
  element_at,
  selected,
  source_value,
  all_hold,
  with_node,
  same_part,
  find_node,
  node_outputs,
  node_next,
  out,
  case_look,
  case_outputs,
  switch_outputs,
  switch_next,
  graph_outputs,
  graph_next,
  graph_initial,
}
use Rattle.algo_tree.specs.Order.{IsAcyclic, IsBefore, AreBefore, GuardsBefore, MeetsLevel}
use Rattle.algo_tree.specs.Parts.{IsApart, HasDistinctParts}
use Rattle.algo_tree.proofs.Fuel.{unique}
use Rattle.algo_tree.proofs.InOrder.{acyclic-in_order}
use Rattle.algo_tree.specs.Meaning.{node, nodes}
use Rattle.algo_tree.specs.Well.{IsOwn, AreOwn, OwnGuards}
use Rattle.algo_tree.proofs.SameParts.{same_itself, same_means}
use Rattle.flat_laws.specs.Guarded.{guard_for, merge_of, merges, merge_sources}
use Rattle.algo_tree.proofs.Segments.{OrderFrom, in_order-from, order-append, before_below}
use Rattle.algo_tree.proofs.Lists.{append_left, append_right, map_below, at_below, mapped, map_map, none_past}
use Rattle.flat_laws.proofs.Guards.{Follows, Under, hold-append, AllStill, at_found, still_found, graph-still}
use Rattle.syn_base.specs.Vectors.{Vector, Values, vector_at, zeros}
use Rattle.syn_base.specs.Numbers.{numbers_below}

-- fed by the level's own inputs alone
pub record IsFed (d : Node) : Type 0 where
  pub guards : OwnGuards d.guards
  pub asked : AreOwn d.asked
  pub ins : AreOwn d.ins

abbrev pub CasesUnder : List Guard → ℕ → List ℤ → ℕ → List Node → List Node → Type 0
CasesUnder gs m values i [] [] = Unit {0}
CasesUnder gs m values i [] (d ∷ ds) = ⊥
CasesUnder gs m values i (c ∷ cs) [] = ⊥
CasesUnder gs m values i (c ∷ cs) (d ∷ ds) = (Under (gs ++ guard_for m values i ∷ []) m c d × IsFed d) × CasesUnder gs m values (suc i) cs ds

chosen_le : (b : Bool) (s n : ℕ) → s ≤ n → cond b 0 (suc s) ≤ suc n
chosen_le true s n h = omega arith
chosen_le false s n h = omega arith

selected-le : (values : List ℤ) (v : Vector) → selected values v ≤ length values
selected-le [] v = omega arith
selected-le (x ∷ xs) v = chosen_le (int_eq x (element_at v 0)) (selected xs v) (length xs) (selected-le xs v)

unequal : (m n : ℕ) → m ≢ n → (m == n) ≡ false
unequal m n h = elim (eqb_tells m n) [ inl same ↦ absurd (h same.1) | inr other ↦ other.0 ]

both_same : {A : Type 0} (b : Bool) (x : A) → cond b x x ≡ x
both_same true x = refl
both_same false x = refl

-- what is seen of own inputs does not depend on the table
module _ (ins : Values) (f g : ℕ → Values) where
  own_look : (ss : List Source) → AreOwn ss → map (source_value ins f) ss ≡ map (source_value ins g) ss
  own_look [] h = refl
  own_look (Own k ∷ ss) h = ap (λ vs. vector_at ins k ∷ vs) (own_look ss h.1)
  own_look (Of r p ∷ ss) h = absurd h.0

  own_source : (s : Source) → IsOwn s → source_value ins f s ≡ source_value ins g s
  own_source (Own k) h = refl
  own_source (Of r p) h = absurd h

  pub own_holds : (gs : List Guard) → OwnGuards gs → all_hold (source_value ins f) gs ≡ all_hold (source_value ins g) gs
  own_holds [] h = refl
  own_holds (x ∷ gs) h = ap₂ (λ v b. (selected x.values v == x.case) && b) (own_source x.source h.0) (own_holds gs h.1)

  fed_outputs : (row : Values) (st : State) (d : Node) → IsFed d → node_outputs row st (source_value ins f) d ≡ node_outputs row st (source_value ins g) d
  fed_outputs row st d h = ap₂ (λ b vs. cond b (d.does.outputs row st vs) (map zeros d.outs)) (own_holds d.guards h.guards) (own_look d.asked h.asked)

  fed_next : (row : Values) (st : State) (d : Node) → IsFed d → node_next row st (source_value ins f) d ≡ node_next row st (source_value ins g) d
  fed_next row st d h = ap₂ (λ b vs. cond b (d.does.next row st vs) st) (own_holds d.guards h.guards) (own_look d.ins h.ins)

pub same_count : (gs : List Guard) (m : ℕ) (values : List ℤ) (i : ℕ) (cs ds : List Node) → CasesUnder gs m values i cs ds → length ds ≡ length cs
same_count gs m values i [] [] h = refl
same_count gs m values i [] (d ∷ ds) h = absurd h
same_count gs m values i (c ∷ cs) [] h = absurd h
same_count gs m values i (c ∷ cs) (d ∷ ds) h = ap suc (same_count gs m values (suc i) cs ds h.1)

still-append : (row : Values) (st : State) (look : Source → Vector) (xs ys : List Node) → AllStill row st look xs → AllStill row st look ys → AllStill row st look (xs ++ ys)
still-append row st look [] ys h k = k
still-append row st look (x ∷ xs) ys h k = (h.0, still-append row st look xs ys h.1 k)

module _ (D : List ℕ) (gs : List Guard) (m : ℕ) (values : List ℤ) (cs ds : List Node) (names : List (List ℕ)) (lens : List ℕ) where
  abbrev pub merge_kids : ℕ → List (List ℕ) → List Node
  merge_kids q ns = nodes (merges D gs m values (length cs) lens q ns)

  abbrev pub cases_level : List Node
  cases_level = ds ++ merge_kids 0 names

  merges-still : (row : Values) (st : State) (look : Source → Vector) (q : ℕ) (ns : List (List ℕ)) → AllStill row st look (merge_kids q ns)
  merges-still row st look q [] = tt
  merges-still row st look q (x ∷ ns) = (both_same (all_hold look gs) _, merges-still row st look (suc q) ns)

  module _ (row : Values) (st : State) (ins ins' : Values) (own : (k : ℕ) → vector_at ins' (m + k) ≡ vector_at ins k) where
    abbrev sel : ℕ
    sel = selected values (vector_at ins 0)

    at_condition : vector_at ins' m ≡ vector_at ins 0
    at_condition = ap (vector_at ins') (omega arith) ∙ own 0

    -- a case stands under the switch's condition beside the guards around it
    one_more : (f : ℕ → Values) (i : ℕ) → all_hold (source_value ins' f) (gs ++ guard_for m values i ∷ []) ≡ (all_hold (source_value ins' f) gs && (sel == i))
    one_more f i =
        hold-append (source_value ins' f) gs (guard_for m values i ∷ [])
        ∙ ap (λ b. all_hold (source_value ins' f) gs && b) (and-true (selected values (vector_at ins' m) == i) ∙ ap (λ v. selected values v == i) at_condition)

    not_chosen : (f : ℕ → Values) (i : ℕ) → sel ≢ i → all_hold (source_value ins' f) (gs ++ guard_for m values i ∷ []) ≡ false
    not_chosen f i other = one_more f i ∙ ap (λ b. all_hold (source_value ins' f) gs && b) (unequal sel i other) ∙ and-false (all_hold (source_value ins' f) gs)

    -- where a guard around the switch does not hold, nothing changes
    outside-still : (f : ℕ → Values) → all_hold (source_value ins' f) gs ≡ false → (i : ℕ) (ks es : List Node) → CasesUnder gs m values i ks es → AllStill row st (source_value ins' f) es
    outside-still f e i [] [] h = tt
    outside-still f e i [] (d ∷ es) h = absurd h
    outside-still f e i (c ∷ ks) [] h = absurd h
    outside-still f e i (c ∷ ks) (d ∷ es) h =
        (h.0.0.idle row (below d.part st) (source_value ins' f) (one_more f i ∙ ap (λ b. b && (sel == i)) e), outside-still f e (suc i) ks es h.1)

    later-still : (f : ℕ → Values) (i : ℕ) (ks es : List Node) → CasesUnder gs m values i ks es → sel < i → AllStill row st (source_value ins' f) es
    later-still f i [] [] h lt = tt
    later-still f i [] (d ∷ es) h lt = absurd h
    later-still f i (c ∷ ks) [] h lt = absurd h
    later-still f i (c ∷ ks) (d ∷ es) h lt =
        (h.0.0.idle row (below d.part st) (source_value ins' f) (not_chosen f i (λ e. omega arith)), later-still f (suc i) ks es h.1 (omega arith))

    pub switch-idle : CasesUnder gs m values 0 cs ds → all_hold (source_value ins' (λ _. [])) gs ≡ false → OwnGuards gs → graph_next cases_level row st ins' ≡ st
    switch-idle h e own_gs =
        let f = out cases_level row st ins' (length cases_level) in
        graph-still row st ins' cases_level
        (still-append row st (source_value ins' f) ds (merge_kids 0 names) (outside-still f (own_holds ins' f (λ _. []) gs own_gs ∙ e) 0 cs ds h) (merges-still row st (source_value ins' f) 0 names))

    -- where all guards around the switch hold
    module _ (long : length cs ≡ suc (length values)) (cases : CasesUnder gs m values 0 cs ds) (around : (f : ℕ → Values) → all_hold (source_value ins' f) gs ≡ true) where
      abbrev look0 : Source → Vector
      look0 = source_value ins' (λ _. [])

      abbrev F0 : Node → Values
      F0 d = node_outputs row (below d.part st) look0 d

      abbrev chosen : Values
      chosen = case_outputs values cs row st ins

      abbrev CV : List Values
      CV = map F0 ds

      abbrev merge_values : ℕ → List (List ℕ) → List Values
      merge_values q [] = []
      merge_values q (x ∷ ns) = (vector_at chosen q ∷ []) ∷ merge_values (suc q) ns

      abbrev MV : List Values
      MV = merge_values 0 names

      abbrev expected : ℕ → Values
      expected r = get_or (CV ++ MV) r []

      abbrev look : Source → Vector
      look = source_value ins' expected

      abbrev F : Node → Values
      F d = node_outputs row (below d.part st) look d

      holds_at : (f : ℕ → Values) (i : ℕ) → sel ≡ i → all_hold (source_value ins' f) (gs ++ guard_for m values i ∷ []) ≡ true
      holds_at f i e = one_more f i ∙ ap₂ (λ a b. a && b) (around f) (eq-eqb sel i e)

      follows0 : Follows m (case_look ins) look0
      follows0 (Own k) = own k
      follows0 (Of r p) = refl

      chosen_out : (i : ℕ) (c d : Node) → sel ≡ i → Under (gs ++ guard_for m values i ∷ []) m c d → F0 d ≡ node_outputs row (below c.part st) (case_look ins) c
      chosen_out i c d e u = ap (λ p. node_outputs row (below p st) look0 d) u.part ∙ u.outputs row (below c.part st) (case_look ins) look0 follows0 (holds_at (λ _. []) i e)

      at_chosen : (i j : ℕ) (ks es : List Node) → i + j ≡ sel → CasesUnder gs m values i ks es → j < length ks
          → get_or (map F0 es) j [] ≡ with_node (slice_get ks j) [] (λ c. node_outputs row (below c.part st) (case_look ins) c)
      at_chosen i j [] [] e h lt = absurd (omega arith)
      at_chosen i j [] (d ∷ es) e h lt = absurd h
      at_chosen i j (c ∷ ks) [] e h lt = absurd h
      at_chosen i zero (c ∷ ks) (d ∷ es) e h lt = chosen_out i c d (omega arith) h.0.0
      at_chosen i (suc j) (c ∷ ks) (d ∷ es) e h lt = at_chosen (suc i) j ks es (omega arith) h.1 (omega arith)

      sel_in : sel < length cs
      sel_in = let le = selected-le values (vector_at ins 0) in omega (arith, le, long)

      long_cases : length CV ≡ length cs
      long_cases = long_map ds ∙ same_count gs m values 0 cs ds cases
        where
          long_map : (es : List Node) → length (map F0 es) ≡ length es
          long_map [] = refl
          long_map (d ∷ es) = ap suc (long_map es)

      at_case : expected sel ≡ chosen
      at_case = append_left CV MV sel [] (let lt = sel_in in let k = long_cases in omega (arith, lt, k)) ∙ at_chosen 0 sel cs ds (zero-add sel) cases sel_in

      cases_meet : (i : ℕ) (ks es : List Node) → CasesUnder gs m values i ks es → map F es ≡ map F0 es
      cases_meet i [] [] h = refl
      cases_meet i [] (d ∷ es) h = absurd h
      cases_meet i (c ∷ ks) [] h = absurd h
      cases_meet i (c ∷ ks) (d ∷ es) h = ap₂ (λ v vs. v ∷ vs) (fed_outputs ins' expected (λ _. []) row (below d.part st) d h.0.1) (cases_meet (suc i) ks es h.1)

      merge_meets : (q : ℕ) (name : List ℕ) (len : ℕ) → F (node (merge_of D gs m values (length cs) q name len)) ≡ vector_at chosen q ∷ []
      merge_meets q name len =
          let given = map look (map (λ i. Of i q) (numbers_below (length cs))) in
          ap (λ b. cond b (vector_at given (selected values (vector_at ins' m)) ∷ []) (zeros len ∷ [])) (around expected)
          ∙ ap (λ v. vector_at given (selected values v) ∷ []) at_condition
          ∙ ap (λ vs. vector_at vs sel ∷ []) (map_map look (λ i. Of i q) (numbers_below (length cs)))
          ∙ ap (λ v. v ∷ []) (at_below (length cs) (λ i. vector_at (expected i) q) sel [] sel_in ∙ ap (λ vs. vector_at vs q) at_case)

      merges_meet : (q : ℕ) (ns : List (List ℕ)) → map F (merge_kids q ns) ≡ merge_values q ns
      merges_meet q [] = refl
      merges_meet q (x ∷ ns) = ap₂ (λ v vs. v ∷ vs) (merge_meets q x (slice_index_or lens q 0)) (merges_meet (suc q) ns)

      all_meet : map F cases_level ≡ CV ++ MV
      all_meet = map-append F ds (merge_kids 0 names) ∙ ap₂ (λ xs ys. xs ++ ys) (cases_meet 0 cs ds cases) (merges_meet 0 names)

      meets : MeetsLevel cases_level row st ins' expected
      meets r = mapped cases_level F r ∙ ap (λ xs. get_or xs r []) all_meet

      out_past : (fuel r : ℕ) → length cases_level ≤ r → out cases_level row st ins' fuel r ≡ []
      out_past zero r h = rw (none_past cases_level r h)
      out_past (suc fuel) r h = rw (none_past cases_level r h)

      everywhere : IsAcyclic cases_level → (r : ℕ) → out cases_level row st ins' (length cases_level) r ≡ expected r
      everywhere acyclic r = elim (cases_lt r (length cases_level)) [
        | inl lt ↦ unique cases_level row st ins' expected meets (length cases_level) (length cases_level) r (acyclic r lt) (omega arith)
        | inr past ↦ out_past (length cases_level) r past ∙ sym (ap (λ o. with_node o [] F) (none_past cases_level r past)) ∙ meets r
      ]

      merge_at : (q j : ℕ) (ns : List (List ℕ)) → j < length ns → get_or (merge_values q ns) j [] ≡ vector_at chosen (q + j) ∷ []
      merge_at q j [] lt = absurd (omega arith)
      merge_at q zero (x ∷ ns) lt = ap (λ k. vector_at chosen k ∷ []) (omega arith)
      merge_at q (suc j) (x ∷ ns) lt = merge_at (suc q) j ns (omega arith) ∙ ap (λ k. vector_at chosen k ∷ []) (omega arith)

      at_merge : (q : ℕ) → q < length names → look (Of (length cs + q) 0) ≡ vector_at chosen q
      at_merge q lt =
          ap (λ vs. vector_at vs 0) (ap (λ k. get_or (CV ++ MV) (k + q) []) (sym long_cases) ∙ append_right CV MV q [] ∙ merge_at 0 q names lt)
          ∙ ap (vector_at chosen) (zero-add q)

      pub switch_outputs-same : IsAcyclic cases_level → graph_outputs (merge_sources (length cs) (length names)) cases_level row st ins' ≡ switch_outputs values (length names) cs row st ins
      switch_outputs-same acyclic =
          ap (λ (f : Source → Vector). map f (merge_sources (length cs) (length names))) (ap (source_value ins') (fun_ext (everywhere acyclic)))
          ∙ map_map look (λ q. Of (length cs + q) 0) (numbers_below (length names)) ∙ map_below (length names) (λ q. look (Of (length cs + q) 0)) (vector_at chosen) at_merge

      -- what is kept next
      module _ (f : ℕ → Values) (p : Part) (q : Path) where
        abbrev in_case : Option Node → List Vector
        in_case o = with_node o (st (p ∷ q)) (λ c. cond (same_part c.part p) (node_next row (below c.part st) (case_look ins) c q) (st (p ∷ q)))

        abbrev found : Option Node → List Vector
        found = at_found row st (source_value ins' f) p q

        here : (b : Bool) (i : ℕ) (c d : Node) (o : Option Node) → sel ≡ i → Under (gs ++ guard_for m values i ∷ []) m c d → IsFed d → found o ≡ st (p ∷ q)
            → found (cond b (Some d) o) ≡ cond b (node_next row (below c.part st) (case_look ins) c q) (st (p ∷ q))
        here true i c d o e u fed later =
            ap (λ s. s q) (fed_next ins' f (λ _. []) row (below d.part st) d fed) ∙ ap (λ x. node_next row (below x st) look0 d q) u.part
            ∙ ap (λ s. s q) (u.next row (below c.part st) (case_look ins) look0 follows0 (holds_at (λ _. []) i e))
        here false i c d o e u fed later = later

        differs : (b : Bool) (c : Node) (x : Part) → same_part c.part p ≡ b → x ≡ p → same_part x c.part ≡ false
            → cond b (node_next row (below c.part st) (case_look ins) c q) (st (p ∷ q)) ≡ st (p ∷ q)
        differs true c x e is apart =
            let same : x ≡ c.part = is ∙ sym (same_means c.part p e) in
            absurd (false≢true (sym apart ∙ subst (λ y. same_part x y ≡ true) same (same_itself x)))
        differs false c x e is apart = refl

        not_here : (ks : List Node) (j : ℕ) (x : Part) → x ≡ p → IsApart x ks → in_case (slice_get ks j) ≡ st (p ∷ q)
        not_here [] j x e h = refl
        not_here (c ∷ ks) zero x e h = differs (same_part c.part p) c x refl e h.0
        not_here (c ∷ ks) (suc j) x e h = not_here ks j x e h.1

        passed : (b : Bool) (j : ℕ) (c d : Node) (ks : List Node) (o : Option Node) → same_part d.part p ≡ b → d.part ≡ c.part
            → node_next row (below d.part st) (source_value ins' f) d ≡ below d.part st
            → found o ≡ in_case (slice_get ks j) → IsApart c.part ks → found (cond b (Some d) o) ≡ in_case (slice_get ks j)
        passed true j c d ks o e part still later apart =
            let is : d.part ≡ p = same_means d.part p e in
            ap (λ s. s q) still ∙ ap (λ x. st (x ∷ q)) is ∙ sym (not_here ks j c.part (sym part ∙ is) apart)
        passed false j c d ks o e part still later apart = later

        up_to_it : (i j : ℕ) (ks es more : List Node) → AllStill row st (source_value ins' f) more → i + j ≡ sel → CasesUnder gs m values i ks es → HasDistinctParts ks → j < length ks
            → found (find_node p (es ++ more)) ≡ in_case (slice_get ks j)
        up_to_it i j [] [] more s e h d lt = absurd (omega arith)
        up_to_it i j [] (x ∷ es) more s e h d lt = absurd h
        up_to_it i j (c ∷ ks) [] more s e h d lt = absurd h
        up_to_it i zero (c ∷ ks) (x ∷ es) more s e h d lt =
            here (same_part x.part p) i c x _ (omega arith) h.0.0 h.0.1
            (still_found row st (source_value ins' f) p q (es ++ more)
            (still-append row st (source_value ins' f) es more (later-still f (suc i) ks es h.1 (omega arith)) s))
            ∙ ap (λ y. cond (same_part y p) (node_next row (below c.part st) (case_look ins) c q) (st (p ∷ q))) h.0.0.part
        up_to_it i (suc j) (c ∷ ks) (x ∷ es) more s e h d lt =
            passed (same_part x.part p) j c x ks _ refl h.0.0.part (h.0.0.idle row (below x.part st) (source_value ins' f) (not_chosen f i (λ e2. omega arith)))
            (up_to_it (suc i) j ks es more s (omega arith) h.1 d.1 (omega arith)) d.0

      pub switch_next-same : HasDistinctParts cs → graph_next cases_level row st ins' ≡ switch_next values cs row st ins
      switch_next-same distinct = fun_ext by_path
        where
          by_path : (q : Path) → graph_next cases_level row st ins' q ≡ switch_next values cs row st ins q
          by_path [] = refl
          by_path (p ∷ q) =
              let f = out cases_level row st ins' (length cases_level) in
              up_to_it f p q 0 sel cs ds (merge_kids 0 names) (merges-still row st (source_value ins' f) 0 names) (zero-add sel) cases distinct sel_in

own_before : (k : ℕ) (ss : List Source) → AreOwn ss → AreBefore k ss
own_before k [] h = tt
own_before k (Own j ∷ ss) h = (tt, own_before k ss h.1)
own_before k (Of r p ∷ ss) h = absurd h.0

own_guards_before : (k : ℕ) (gs : List Guard) → OwnGuards gs → GuardsBefore k gs
own_guards_before k [] h = tt
own_guards_before k (g ∷ gs) h = (own_source_before k g.source h.0, own_guards_before k gs h.1)
  where
    own_source_before : (k : ℕ) (s : Source) → IsOwn s → IsBefore k s
    own_source_before k (Own j) h = tt
    own_source_before k (Of r p) h = absurd h

pub cases_level-acyclic : (D : List ℕ) (gs : List Guard) (m : ℕ) (values : List ℤ) (cs ds : List Node) (names : List (List ℕ))
    (lens : List ℕ) → OwnGuards gs → CasesUnder gs m values 0 cs ds → IsAcyclic (cases_level D gs m values cs ds names lens)
cases_level-acyclic D gs m values cs ds names lens own cases =
    acyclic-in_order _ (in_order-from _ (order-append 0 ds _ (cases_order 0 0 cs ds cases) (merges_order (0 + length ds) 0 names (let k = same_count gs m values 0 cs ds cases in omega (arith, k)))))
  where
    cases_order : (k i : ℕ) (ks es : List Node) → CasesUnder gs m values i ks es → OrderFrom k es
    cases_order k i [] [] h = tt
    cases_order k i [] (d ∷ es) h = absurd h
    cases_order k i (c ∷ ks) [] h = absurd h
    cases_order k i (c ∷ ks) (d ∷ es) h = ((own_guards_before k d.guards h.0.1.guards, own_before k d.asked h.0.1.asked), cases_order (suc k) (suc i) ks es h.1)

    merges_order : (k q : ℕ) (ns : List (List ℕ)) → length cs ≤ k → OrderFrom k (merge_kids D gs m values cs ds names lens q ns)
    merges_order k q [] le = tt
    merges_order k q (x ∷ ns) le = ((own_guards_before k gs own, (tt, before_below k (length cs) (λ i. Of i q) (λ i lt. omega arith))), merges_order (suc k) (suc q) ns (omega arith))

-- what is kept first
pub switch_first-same : (D : List ℕ) (gs : List Guard) (m : ℕ) (values : List ℤ) (cs ds : List Node) (names : List (List ℕ)) (lens : List ℕ) → CasesUnder gs m values 0 cs ds
    → graph_initial (cases_level D gs m values cs ds names lens) ≡ graph_initial cs
switch_first-same D gs m values cs ds names lens cases = fun_ext by_path
  where
    first : Path → Option Node → List Vector
    first q o = with_node o [] (λ c. c.does.initial q)

    nothing : (b : Bool) (q : Path) (d : Node) (o : Option Node) → d.does.initial q ≡ [] → first q o ≡ [] → first q (cond b (Some d) o) ≡ []
    nothing true q d o e later = e
    nothing false q d o e later = later

    in_merges : (p : Part) (q : Path) (k : ℕ) (ns : List (List ℕ)) → first q (find_node p (merge_kids D gs m values cs ds names lens k ns)) ≡ []
    in_merges p q k [] = refl
    in_merges p q k (x ∷ ns) = nothing (same_part (Port x) p) q (node (merge_of D gs m values (length cs) k x (slice_index_or lens k 0))) _ refl (in_merges p q (suc k) ns)

    same : (b : Bool) (c d : Node) (o o' : Option Node) (q : Path) → d.does.initial ≡ c.does.initial → first q o' ≡ first q o → first q (cond b (Some d) o') ≡ first q (cond b (Some c) o)
    same true c d o o' q e later = ap (λ s. s q) e
    same false c d o o' q e later = later

    in_cases : (p : Part) (q : Path) (i : ℕ) (ks es : List Node) → CasesUnder gs m values i ks es
        → first q (find_node p (es ++ merge_kids D gs m values cs ds names lens 0 names)) ≡ first q (find_node p ks)
    in_cases p q i [] [] h = in_merges p q 0 names
    in_cases p q i [] (d ∷ es) h = absurd h
    in_cases p q i (c ∷ ks) [] h = absurd h
    in_cases p q i (c ∷ ks) (d ∷ es) h =
        ap (λ x. first q (cond (same_part x p) (Some d) (find_node p (es ++ merge_kids D gs m values cs ds names lens 0 names)))) h.0.0.part
        ∙ same (same_part c.part p) c d _ _ q h.0.0.first (in_cases p q (suc i) ks es h.1)

    by_path : (q : Path) → graph_initial (cases_level D gs m values cs ds names lens) q ≡ graph_initial cs q
    by_path [] = refl
    by_path (p ∷ q) = in_cases p q 0 cs ds cases
