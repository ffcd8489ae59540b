-- A repetition and its graph give the same.
use Rattle.std.proofs.Common.{
  ◌≡◌,
  ℤ,
  ℕ,
  zero,
  suc,
  ◌+◌,
  ◌-◌,
  ◌*◌,
  ◌<◌,
  ◌≤◌,
  ◌==◌,
  List,
  [],
  ◌∷◌,
  ◌++◌,
  length,
  get_or,
  slice_index_or,
  take,
  drop,
  map,
  replicate,
  Bool,
  true,
  false,
  cond,
  Option,
  Some,
  None,
  refl,
  sym,
  ap,
  ap₂,
  ◌∙◌,
  subst,
  arith,
  eq-eqb,
  inl,
  inr,
  append-nil,
  zero-mul,
  zero-add,
  suc-add,
  add_assoc,
}
use mathlib.Core.Path.{fun_ext}
use Rattle.std.proofs.lemmas.List.{map-append, append_assoc}
use Rattle.std.proofs.lemmas.Bool.{cases_lt, lt-ltb, le-ltb}
use Rattle.std.proofs.lemmas.Bool.Decides.{eqb_tells}
use Rattle.std.proofs.lemmas.Slice.Eq.{bytes_eq-Decides}
use Rattle.std.proofs.Math.Dec.{eqb-suc-zero}
use Rattle.std.specs.Str.{bytes_eq}
use Rattle.algo_tree.specs.declared.Source.{Source}
use Rattle.algo_tree.specs.declared.Source.TheVariants.{Own, Of}
use Rattle.algo_tree.specs.declared.Part.{Part}
use Rattle.algo_tree.specs.declared.Part.TheVariants.{Named, Numbered, Port}
use Rattle.algo_tree.specs.declared.Feed.{Feed}
use Rattle.algo_tree.specs.declared.Feed.TheVariants.{Fork, Diffuse, Iterate}
use Rattle.algo_tree.specs.declared.Give.{Give}
use Rattle.algo_tree.specs.declared.Give.TheVariants.{Last, Join}
use Rattle.algo_tree.specs.Level.{
  State,
  Path,
  Node,
  find_node,
  node_next,
  graph_next,
  repeat_next,
  graph_initial,
  repeat_initial,
  Behaviour,
  below,
  all_joined,
  joined,
  source_value,
  with_node,
  node_outputs,
  out,
  level_value,
  copy_input,
  copy_outputs,
  copy_before,
  give_value,
  graph_outputs,
  repeat_outputs,
}
use Rattle.algo_tree.specs.Order.{IsBefore, AreBefore, IsAcyclic, MeetsLevel}
use Rattle.algo_tree.proofs.Fuel.{unique}
use Rattle.algo_tree.proofs.InOrder.{acyclic-in_order}
use Rattle.algo_tree.specs.Tree.{Label, Vertices}
use Rattle.algo_tree.specs.Meaning.{behaviour_of, node, nodes}
use Rattle.algo_tree.specs.Well.{fork_names}
use Rattle.algo_tree.proofs.Appends.{blind}
use Rattle.flat_laws.specs.Lines.{in_line_order, fork_place}
use Rattle.flat_laws.proofs.Lines.{AllLines, AreApart, apart-lines, IsLine, lines-are, many-lines, forked, long-forked, place-below, at-place}
use Rattle.algo_tree.proofs.Segments.{OrderFrom, in_order-from, order-append, before_below, order_below, before-asked}
use Rattle.flat_laws.specs.Unrolled.{explode_of, explodes, copy_sources, copy as copy_vertex, implode_of, implodes, give_sources, begin}
use Rattle.algo_tree.proofs.Lists.{append_left, append_right, map_below, long_below, at_below, none_past, map_map, mapped}
use Rattle.syn_base.specs.Vectors.{Vector, Values, vector_at}
use Rattle.syn_base.specs.Numbers.{numbers_below}
use Rattle.syn_base.specs.Rows.{cut}

drop_none : (b : ℕ) → drop {A = ℤ} b [] ≡ []
drop_none zero = refl
drop_none (suc b) = refl

drop_twice : (a b : ℕ) (v : Vector) → drop b (drop a v) ≡ drop (a + b) v
drop_twice zero b v = rw zero-add
drop_twice (suc a) b [] = drop_none b ∙ sym (drop_none (suc a + b))
drop_twice (suc a) b (x ∷ v) = rw suc-add (drop_twice a b v)

part_at : (n len i : ℕ) (v : Vector) → i < n → vector_at (cut (replicate n len) v) i ≡ take len (drop (i * len) v)
part_at zero len i v h = absurd (omega arith)
part_at (suc n) len zero v h = rw zero-mul
part_at (suc n) len (suc i) v h = part_at n len i (drop len v) (omega arith) ∙ ap (take len) (drop_twice len (i * len) v ∙ ap (λ k. drop k v) (omega arith))

joined_snoc : (xs : Values) (x : Vector) → all_joined (xs ++ x ∷ []) ≡ all_joined xs ++ x
joined_snoc [] x = append-nil x
joined_snoc (y ∷ xs) x = ap (λ z. y ++ z) (joined_snoc xs x) ∙ sym (append_assoc y (all_joined xs) x)

joined_is : (copy : ℕ → Values) (y n : ℕ) → all_joined (map (λ i. vector_at (copy i) y) (numbers_below n)) ≡ joined copy y n
joined_is copy y zero = refl
joined_is copy y (suc n) =
    ap all_joined (map-append (λ i. vector_at (copy i) y) (numbers_below n) (n ∷ []))
    ∙ joined_snoc (map (λ i. vector_at (copy i) y) (numbers_below n)) (vector_at (copy n) y) ∙ ap (λ v. v ++ vector_at (copy n) y) (joined_is copy y n)

abbrev explode_values : ℕ → Values → List Feed → List Values
explode_values n ins = forked (λ k len. cut (replicate n len) (vector_at ins k))

abbrev implode_values : ℕ → (ℕ → Values) → List Give → List Values
implode_values n copy [] = []
implode_values n copy (Join name y ∷ gs) = (joined copy y n ∷ []) ∷ implode_values n copy gs
implode_values n copy (Last y ∷ gs) = implode_values n copy gs

module _ (d : List ℕ) (n : ℕ) (feeds : List Feed) (gives : List Give) (lens : List ℕ) (lb : Label) (vs : Vertices) where
  abbrev pub body : Behaviour
  body = behaviour_of lb (nodes vs)

  abbrev pub c : ℕ
  c = begin feeds

  abbrev pub S : List Feed
  S = in_line_order feeds

  abbrev pub kid : ℕ → Node
  kid i = node (copy_vertex c feeds lb vs i)

  abbrev pub level : List Node
  level = map node (explodes d n S) ++ (map kid (numbers_below n) ++ map node (implodes d c n lens 0 gives))

  -- each source of the graph stands earlier
  explodes_order : (k : ℕ) (fs : List Feed) → OrderFrom k (map node (explodes d n fs))
  explodes_order k [] = tt
  explodes_order k (Fork name x len ∷ fs) = ((tt, (tt, tt)), explodes_order (suc k) fs)
  explodes_order k (Diffuse x ∷ fs) = explodes_order k fs
  explodes_order k (Iterate x y ∷ fs) = explodes_order k fs

  iterate_before : (i k y : ℕ) → IsBefore (c + i) (cond (i == 0) (Own k) (Of (c + (i - 1)) y))
  iterate_before zero k y = tt
  iterate_before (suc i) k y = let test : (suc i == 0) ≡ false = eqb-suc-zero i in subst (λ b. IsBefore (c + suc i) (cond b (Own k) (Of (c + (suc i - 1)) y))) (sym test) (omega arith)

  sources_before : (i : ℕ) (fs : List Feed) → AllLines (λ f. IsLine f S) fs → AreBefore (c + i) (copy_sources c i S fs)
  sources_before i [] h = tt
  sources_before i (Fork name k len ∷ fs) h =
      let below = place-below name k len S h.0 in
      let many = many-lines feeds in
      (omega (arith, below, many), sources_before i fs h.1)
  sources_before i (Diffuse k ∷ fs) h = (tt, sources_before i fs h.1)
  sources_before i (Iterate k y ∷ fs) h = (iterate_before i k y, sources_before i fs h.1)

  implodes_order : (k : ℕ) (gs : List Give) (j : ℕ) → c + n ≤ k → OrderFrom k (map node (implodes d c n lens j gs))
  implodes_order k [] j le = tt
  implodes_order k (Join name y ∷ gs) j le = ((tt, before_below k n (λ i. Of (c + i) y) (λ i lt. omega arith)), implodes_order (suc k) gs (suc j) (omega arith))
  implodes_order k (Last y ∷ gs) j le = implodes_order k gs (suc j) le

  long_nodes : (fs : List Feed) → length (map node (explodes d n fs)) ≡ length (fork_names fs)
  long_nodes [] = refl
  long_nodes (Fork name k len ∷ fs) = ap suc (long_nodes fs)
  long_nodes (Diffuse k ∷ fs) = long_nodes fs
  long_nodes (Iterate k y ∷ fs) = long_nodes fs

  pub level_acyclic : IsAcyclic level
  level_acyclic =
      let len : length (map node (explodes d n S)) ≡ c = long_nodes S ∙ many-lines feeds in
      let kids = order_below c n kid (λ i lt. (tt, before-asked (c + i) lb.kind (copy_sources c i S feeds) (sources_before i feeds (lines-are feeds)))) in
      let many = kids.0 in
      acyclic-in_order level (in_order-from level (order-append 0 (map node (explodes d n S)) _ (explodes_order 0 S)
      (subst (λ m. OrderFrom m (map kid (numbers_below n) ++ map node (implodes d c n lens 0 gives))) (sym len ∙ omega arith)
      (order-append c (map kid (numbers_below n)) _ kids.1 (implodes_order _ gives 0 (omega (arith, many)))))))

  module _ (row : Values) (st : State) (ins : Values) where
    abbrev copy : ℕ → Values
    copy = copy_outputs feeds body row st ins

    abbrev EV : List Values
    EV = explode_values n ins S

    abbrev CV : List Values
    CV = map copy (numbers_below n)

    abbrev IV : List Values
    IV = implode_values n copy gives

    abbrev expected : ℕ → Values
    expected r = get_or (EV ++ (CV ++ IV)) r []

    abbrev look : Source → Vector
    look = source_value ins expected

    abbrev F : Node → Values
    F k = node_outputs row (below k.part st) look k

    long_explodes : c ≡ length EV
    long_explodes = sym (long-forked (λ k len. cut (replicate n len) (vector_at ins k)) S ∙ many-lines feeds)

    explodes_meet : (fs : List Feed) → map F (map node (explodes d n fs)) ≡ explode_values n ins fs
    explodes_meet [] = refl
    explodes_meet (Fork name k len ∷ fs) = ap (λ vs. cut (replicate n len) (vector_at ins k) ∷ vs) (explodes_meet fs)
    explodes_meet (Diffuse k ∷ fs) = explodes_meet fs
    explodes_meet (Iterate k y ∷ fs) = explodes_meet fs

    at_copy : (i : ℕ) → i < n → expected (c + i) ≡ copy i
    at_copy i lt =
        let e : c ≡ length EV = long_explodes in
        ap (λ k. get_or (EV ++ (CV ++ IV)) (k + i) []) e ∙ append_right EV (CV ++ IV) i [] ∙ append_left CV IV i [] (let k = long_below n copy in omega (arith, k)) ∙ at_below n copy i [] lt

    copy_unfold : (i : ℕ) → copy i ≡ body.outputs row (below (Numbered i) st) (map (copy_input ins (copy_before feeds body row st ins i) i) feeds)
    copy_unfold zero = refl
    copy_unfold (suc i) = refl

    iterated : (i k y : ℕ) → i < n → look (cond (i == 0) (Own k) (Of (c + (i - 1)) y)) ≡ cond (i == 0) (vector_at ins k) (vector_at (copy_before feeds body row st ins i) y)
    iterated zero k y lt = refl
    iterated (suc i) k y lt =
        let test : (suc i == 0) ≡ false = eqb-suc-zero i in
        let before : expected (c + (suc i - 1)) ≡ copy i = ap (λ m. expected (c + m)) (omega arith) ∙ at_copy i (omega arith) in
        rw test (ap (λ vs. vector_at vs y) before)

    -- an explode gives the parts of the outer input of its line
    at_explode : AreApart feeds → (name : List ℕ) (k len : ℕ) → IsLine (Fork name k len) S → expected (fork_place name S) ≡ cut (replicate n len) (vector_at ins k)
    at_explode apart name k len line =
        let below = place-below name k len S line in
        let many = many-lines feeds in
        let long = long_explodes in
        append_left EV (CV ++ IV) (fork_place name S) [] (omega (arith, below, many, long))
        ∙ at-place (λ j m. cut (replicate n m) (vector_at ins j)) [] name k len S (apart-lines feeds apart) line

    -- the inputs of copy i
    copy_meets : AreApart feeds → (i : ℕ) → i < n → (fs : List Feed) → AllLines (λ f. IsLine f S) fs → map look (copy_sources c i S fs)
        ≡ map (copy_input ins (copy_before feeds body row st ins i) i) fs
    copy_meets apart i lt [] h = refl
    copy_meets apart i lt (Fork name k len ∷ fs) h =
        ap₂ (λ v vs. v ∷ vs) (ap (λ vs. vector_at vs i) (at_explode apart name k len h.0) ∙ part_at n len i (vector_at ins k) lt) (copy_meets apart i lt fs h.1)
    copy_meets apart i lt (Diffuse k ∷ fs) h = ap (λ vs. vector_at ins k ∷ vs) (copy_meets apart i lt fs h.1)
    copy_meets apart i lt (Iterate k y ∷ fs) h = ap₂ (λ v vs. v ∷ vs) (iterated i k y lt) (copy_meets apart i lt fs h.1)

    copies_meet : AreApart feeds → map F (map kid (numbers_below n)) ≡ CV
    copies_meet apart = map_map F (kid) (numbers_below n) ∙ map_below n (λ i. F (kid i)) copy
        (λ i lt. blind lb.kind lb.outs (nodes vs) row (below (Numbered i) st) look (copy_sources c i S feeds)
        ∙ ap (λ xs. body.outputs row (below (Numbered i) st) xs) (copy_meets apart i lt feeds (lines-are feeds)) ∙ sym (copy_unfold i))

    implodes_meet : (gs : List Give) (j : ℕ) → map F (map node (implodes d c n lens j gs)) ≡ implode_values n copy gs
    implodes_meet [] j = refl
    implodes_meet (Join name y ∷ gs) j =
        let parts : map look (map (λ i. Of (c + i) y) (numbers_below n)) ≡ map (λ i. vector_at (copy i) y) (numbers_below n) =
        map_map look (λ i. Of (c + i) y) (numbers_below n) ∙ map_below n (λ i. look (Of (c + i) y)) (λ i. vector_at (copy i) y) (λ i lt. ap (λ vs. vector_at vs y) (at_copy i lt)) in
        ap₂ (λ v vs. (v ∷ []) ∷ vs) (ap all_joined parts ∙ joined_is copy y n) (implodes_meet gs (suc j))
    implodes_meet (Last y ∷ gs) j = implodes_meet gs (suc j)

    all_meet : AreApart feeds → map F (level) ≡ EV ++ (CV ++ IV)
    all_meet apart =
        map-append F (map node (explodes d n S)) (map kid (numbers_below n) ++ map node (implodes d c n lens 0 gives))
        ∙ ap₂ (λ xs ys. xs ++ ys) (explodes_meet S)
        (map-append F (map kid (numbers_below n)) (map node (implodes d c n lens 0 gives))
        ∙ ap₂ (λ xs ys. xs ++ ys) (copies_meet apart) (implodes_meet gives 0))

    pub unrolled_meets : AreApart feeds → MeetsLevel (level) row st ins expected
    unrolled_meets apart r = mapped (level) F r ∙ ap (λ xs. get_or xs r []) (all_meet apart)

    out_past : (fuel r : ℕ) → length level ≤ r → out level row st ins fuel r ≡ []
    out_past zero r h = rw (none_past level r h)
    out_past (suc fuel) r h = rw (none_past level r h)

    everywhere : AreApart feeds → IsAcyclic level → (r : ℕ) → out level row st ins (length level) r ≡ expected r
    everywhere apart acyclic r = elim (cases_lt r (length level)) [
      | inl lt ↦ unique level row st ins expected (unrolled_meets apart) (length level) (length level) r (acyclic r lt) (omega arith)
      | inr past ↦ out_past (length level) r past ∙ sym (ap (λ o. with_node o [] F) (none_past level r past)) ∙ unrolled_meets apart r
    ]

    same_look : AreApart feeds → IsAcyclic level → level_value level row st ins ≡ look
    same_look apart acyclic = ap (source_value ins) (fun_ext (everywhere apart acyclic))

    at_implode : (j : ℕ) → expected (c + n + j) ≡ get_or IV j []
    at_implode j =
        let e : c ≡ length EV = long_explodes in
        let k : length CV ≡ n = long_below n copy in
        ap expected (add_assoc c n j) ∙ ap (λ m. get_or (EV ++ (CV ++ IV)) (m + (n + j)) []) e ∙ append_right EV (CV ++ IV) (n + j) []
        ∙ ap (λ m. get_or (CV ++ IV) (m + j) []) (sym k) ∙ append_right CV IV j []

    gives_meet : 0 < n → (m : ℕ) (gs : List Give) → ((j : ℕ) → expected (c + n + (m + j)) ≡ get_or (implode_values n copy gs) j []) → map look (give_sources c n m gs) ≡ map (give_value copy n) gs
    gives_meet some m [] h = refl
    gives_meet some m (Join name y ∷ gs) h =
        ap₂ (λ v vs. v ∷ vs) (ap (λ vs. vector_at vs 0) (ap expected (omega arith) ∙ h 0)) (gives_meet some (suc m) gs (λ j. ap expected (omega arith) ∙ h (suc j)))
    gives_meet some m (Last y ∷ gs) h = ap₂ (λ v vs. v ∷ vs) (ap (λ vs. vector_at vs y) (at_copy (n - 1) (omega arith))) (gives_meet some m gs h)

    pub unrolled_outputs : AreApart feeds → IsAcyclic level → 0 < n → graph_outputs (give_sources c n 0 gives) level row st ins ≡ repeat_outputs n feeds gives body row st ins
    unrolled_outputs apart acyclic some = ap (λ (f : Source → Vector). map f (give_sources c n 0 gives)) (same_look apart acyclic)
        ∙ gives_meet some 0 gives (λ j. ap (λ k. expected (c + n + k)) (zero-add j) ∙ at_implode j)

    -- what is kept next at a path: nothing new at the explodes and implodes, and that of copy i at copy i
    abbrev at_found : Part → Path → (Source → Vector) → Option Node → List Vector
    at_found p q f o = with_node o (st (p ∷ q)) (λ k. node_next row (below k.part st) f k q)

    same_bytes : (xs ys : List ℕ) → bytes_eq xs ys ≡ true → xs ≡ ys
    same_bytes xs ys h = (bytes_eq-Decides xs ys).0 h

    port_found : (b : Bool) (x y : List ℕ) (q : Path) (f : Source → Vector) (k : Node) (o : Option Node) → bytes_eq x y ≡ b → k.part ≡ Port x → node_next row (below k.part st) f k ≡ below k.part st
        → at_found (Port y) q f o ≡ st (Port y ∷ q) → at_found (Port y) q f (cond b (Some k) o) ≡ st (Port y ∷ q)
    port_found true x y q f k o e is stays later = ap (λ s. s q) stays ∙ ap (λ p. st (p ∷ q)) (is ∙ ap Port (same_bytes x y e))
    port_found false x y q f k o e is stays later = later

    port_explodes : (fs : List Feed) (y : List ℕ) (q : Path) (f : Source → Vector) (others : List Node) → at_found (Port y) q f (find_node (Port y) others) ≡ st (Port y ∷ q)
        → at_found (Port y) q f (find_node (Port y) (map node (explodes d n fs) ++ others)) ≡ st (Port y ∷ q)
    port_explodes [] y q f others h = h
    port_explodes (Fork name k len ∷ fs) y q f others h = port_found (bytes_eq name y) name y q f (node (explode_of d n name k len)) _ refl refl refl (port_explodes fs y q f others h)
    port_explodes (Diffuse k ∷ fs) y q f others h = port_explodes fs y q f others h
    port_explodes (Iterate k z ∷ fs) y q f others h = port_explodes fs y q f others h

    port_implodes : (gs : List Give) (j : ℕ) (y : List ℕ) (q : Path) (f : Source → Vector) → at_found (Port y) q f (find_node (Port y) (map node (implodes d c n lens j gs))) ≡ st (Port y ∷ q)
    port_implodes [] j y q f = refl
    port_implodes (Join name z ∷ gs) j y q f = port_found (bytes_eq name y) name y q f (node (implode_of d c n name z (slice_index_or lens j 0))) _ refl refl refl (port_implodes gs (suc j) y q f)
    port_implodes (Last z ∷ gs) j y q f = port_implodes gs (suc j) y q f

    port_copies : (is : List ℕ) (y : List ℕ) (others : List Node) → find_node (Port y) (map kid is ++ others) ≡ find_node (Port y) others
    port_copies [] y others = refl
    port_copies (i ∷ is) y others = port_copies is y others

    named_explodes : (fs : List Feed) (x : List ℕ) (others : List Node) → find_node (Named x) (map node (explodes d n fs) ++ others) ≡ find_node (Named x) others
    named_explodes [] x others = refl
    named_explodes (Fork name k len ∷ fs) x others = named_explodes fs x others
    named_explodes (Diffuse k ∷ fs) x others = named_explodes fs x others
    named_explodes (Iterate k y ∷ fs) x others = named_explodes fs x others

    named_copies : (is : List ℕ) (x : List ℕ) (others : List Node) → find_node (Named x) (map kid is ++ others) ≡ find_node (Named x) others
    named_copies [] x others = refl
    named_copies (i ∷ is) x others = named_copies is x others

    named_implodes : (gs : List Give) (j : ℕ) (x : List ℕ) → find_node (Named x) (map node (implodes d c n lens j gs)) ≡ None
    named_implodes [] j x = refl
    named_implodes (Join name z ∷ gs) j x = named_implodes gs (suc j) x
    named_implodes (Last z ∷ gs) j x = named_implodes gs (suc j) x

    copy_explodes : (fs : List Feed) (i : ℕ) (others : List Node) → find_node (Numbered i) (map node (explodes d n fs) ++ others) ≡ find_node (Numbered i) others
    copy_explodes [] i others = refl
    copy_explodes (Fork name k len ∷ fs) i others = copy_explodes fs i others
    copy_explodes (Diffuse k ∷ fs) i others = copy_explodes fs i others
    copy_explodes (Iterate k y ∷ fs) i others = copy_explodes fs i others

    copy_implodes : (gs : List Give) (j : ℕ) (i : ℕ) → find_node (Numbered i) (map node (implodes d c n lens j gs)) ≡ None
    copy_implodes [] j i = refl
    copy_implodes (Join name z ∷ gs) j i = copy_implodes gs (suc j) i
    copy_implodes (Last z ∷ gs) j i = copy_implodes gs (suc j) i

    apart : (k i : ℕ) → k < i → (k == i) ≡ false
    apart k i lt = elim (eqb_tells k i) [ inl same ↦ absurd (omega (arith, same.1)) | inr other ↦ other.0 ]

    split_last : (k : ℕ) (others : List Node) → map kid (numbers_below (suc k)) ++ others ≡ map kid (numbers_below k) ++ (kid k ∷ others)
    split_last k others = ap (λ xs. xs ++ others) (map-append kid (numbers_below k) (k ∷ [])) ∙ append_assoc (map kid (numbers_below k)) (kid k ∷ []) others

    lost_copy : (k i : ℕ) (others : List Node) → k ≤ i → find_node (Numbered i) (map kid (numbers_below k) ++ others) ≡ find_node (Numbered i) others
    lost_copy zero i others le = refl
    lost_copy (suc k) i others le =
        ap (find_node (Numbered i)) (split_last k others) ∙ lost_copy k i (kid k ∷ others) (omega arith) ∙ ap (λ b. cond b (Some (kid k)) (find_node (Numbered i) others)) (apart k i (omega arith))

    found_copy : (k i : ℕ) (others : List Node) → i < k → find_node (Numbered i) (map kid (numbers_below k) ++ others) ≡ Some (kid i)
    found_copy zero i others lt = absurd (omega arith)
    found_copy (suc k) i others lt = ap (find_node (Numbered i)) (split_last k others) ∙ elim (cases_lt i k) [
      | inl lower ↦ found_copy k i (kid k ∷ others) lower
      | inr above ↦
          let same : k ≡ i = omega arith in
          lost_copy k i (kid k ∷ others) above ∙ ap (λ b. cond b (Some (kid k)) (find_node (Numbered i) others)) (eq-eqb k i same) ∙ ap (λ j. Some (kid j)) same
    ]

    copy_next : AreApart feeds → IsAcyclic level → (i : ℕ) → i < n → (q : Path)
        → node_next row (below (Numbered i) st) (level_value level row st ins) (kid i) q ≡ body.next row (below (Numbered i) st) (map (copy_input ins (copy_before feeds body row st ins i) i) feeds) q
    copy_next apart acyclic i lt q =
        ap (λ (f : Source → Vector). body.next row (below (Numbered i) st) (map f (copy_sources c i S feeds)) q) (same_look apart acyclic)
        ∙ ap (λ vs. body.next row (below (Numbered i) st) vs q) (copy_meets apart i lt feeds (lines-are feeds))

    pub unrolled_next : AreApart feeds → IsAcyclic level → (q : Path) → graph_next level row st ins q ≡ repeat_next n feeds body row st ins q
    unrolled_next apart acyclic [] = refl
    unrolled_next apart acyclic (Named x ∷ q) =
        ap (at_found (Named x) q (level_value level row st ins)) (named_explodes S x _ ∙ named_copies (numbers_below n) x (map node (implodes d c n lens 0 gives)) ∙ named_implodes gives 0 x)
    unrolled_next apart acyclic (Port y ∷ q) =
        port_explodes S y q (level_value level row st ins) _
        (ap (at_found (Port y) q (level_value level row st ins))
        (port_copies (numbers_below n) y (map node (implodes d c n lens 0 gives))) ∙ port_implodes gives 0 y q (level_value level row st ins))
    unrolled_next apart acyclic (Numbered i ∷ q) = elim (cases_lt i n) [
      | inl lt ↦
          ap (at_found (Numbered i) q (level_value level row st ins)) (copy_explodes S i _ ∙ found_copy n i (map node (implodes d c n lens 0 gives)) lt) ∙ copy_next apart acyclic i lt q
          ∙ sym (ap (λ b. cond b (body.next row (below (Numbered i) st) (map (copy_input ins (copy_before feeds body row st ins i) i) feeds) q) (st (Numbered i ∷ q))) (lt-ltb i n lt))
      | inr above ↦
          ap (at_found (Numbered i) q (level_value level row st ins)) (copy_explodes S i _ ∙ lost_copy n i (map node (implodes d c n lens 0 gives)) above ∙ copy_implodes gives 0 i)
          ∙ sym (ap (λ b. cond b (body.next row (below (Numbered i) st) (map (copy_input ins (copy_before feeds body row st ins i) i) feeds) q) (st (Numbered i ∷ q))) (le-ltb i n above))
    ]

    -- what is kept first
    abbrev first_found : Path → Option Node → List Vector
    first_found q o = with_node o [] (λ k. k.does.initial q)

    none_kept : (b : Bool) (q : Path) (k : Node) (o : Option Node) → k.does.initial q ≡ [] → first_found q o ≡ [] → first_found q (cond b (Some k) o) ≡ []
    none_kept true q k o is later = is
    none_kept false q k o is later = later

    first_explodes : (fs : List Feed) (y : List ℕ) (q : Path) (others : List Node) → first_found q (find_node (Port y) others) ≡ []
        → first_found q (find_node (Port y) (map node (explodes d n fs) ++ others)) ≡ []
    first_explodes [] y q others h = h
    first_explodes (Fork name k len ∷ fs) y q others h = none_kept (bytes_eq name y) q (node (explode_of d n name k len)) _ refl (first_explodes fs y q others h)
    first_explodes (Diffuse k ∷ fs) y q others h = first_explodes fs y q others h
    first_explodes (Iterate k z ∷ fs) y q others h = first_explodes fs y q others h

    first_implodes : (gs : List Give) (j : ℕ) (y : List ℕ) (q : Path) → first_found q (find_node (Port y) (map node (implodes d c n lens j gs))) ≡ []
    first_implodes [] j y q = refl
    first_implodes (Join name z ∷ gs) j y q =
        none_kept (bytes_eq name y) q (node (implode_of d c n name z (slice_index_or lens j 0))) _ refl (first_implodes gs (suc j) y q)
    first_implodes (Last z ∷ gs) j y q = first_implodes gs (suc j) y q

    pub unrolled_initial : (q : Path) → graph_initial level q ≡ repeat_initial n body q
    unrolled_initial [] = refl
    unrolled_initial (Named x ∷ q) = ap (first_found q) (named_explodes S x _ ∙ named_copies (numbers_below n) x (map node (implodes d c n lens 0 gives)) ∙ named_implodes gives 0 x)
    unrolled_initial (Port y ∷ q) = first_explodes S y q _ (ap (first_found q) (port_copies (numbers_below n) y (map node (implodes d c n lens 0 gives))) ∙ first_implodes gives 0 y q)
    unrolled_initial (Numbered i ∷ q) = elim (cases_lt i n) [
      | inl lt ↦ ap (first_found q) (copy_explodes S i _ ∙ found_copy n i (map node (implodes d c n lens 0 gives)) lt) ∙ sym (ap (λ b. cond b (body.initial q) []) (lt-ltb i n lt))
      | inr above ↦
          ap (first_found q) (copy_explodes S i _ ∙ lost_copy n i (map node (implodes d c n lens 0 gives)) above ∙ copy_implodes gives 0 i)
          ∙ sym (ap (λ b. cond b (body.initial q) []) (le-ltb i n above))
    ]
