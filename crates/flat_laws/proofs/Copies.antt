-- Where the sources of the graph lead that a repetition becomes.
use Rattle.std.proofs.Common.{◌≡◌, ℕ, zero, suc, ◌+◌, ◌-◌, ◌<◌, ◌==◌, inl, inr, List, [], ◌∷◌, ◌++◌, length, get_or, map, Bool, true, false, cond, slice_get, refl, sym, ap, ap₂, ◌∙◌, arith, zero-add}
use mathlib.Core.Path.{fun_ext}
use Rattle.std.proofs.lemmas.List.{map-append}
use Rattle.std.proofs.lemmas.Slice.Eq.{bytes_eq-Decides}
use Rattle.std.proofs.Math.Dec.{eqb-suc-zero}
use Rattle.std.specs.Str.{bytes_eq}
use Rattle.algo_tree.specs.declared.Source.{Source}
use Rattle.algo_tree.specs.declared.Source.TheVariants.{Own, Of}
use Rattle.algo_tree.specs.declared.Part.TheVariants.{Numbered}
use Rattle.algo_tree.specs.declared.Feed.{Feed}
use Rattle.algo_tree.specs.declared.Feed.TheVariants.{Fork, Diffuse, Iterate}
use Rattle.algo_tree.specs.declared.Give.{Give}
use Rattle.algo_tree.specs.declared.Give.TheVariants.{Last, Join}
use Rattle.algo_tree.specs.Level.{Path}
use Rattle.algo_tree.specs.Order.{IsAcyclic}
use Rattle.algo_tree.specs.Tree.{Label, Kind, sensor, actuator, constant, delay, function, explode, implode, merge, graph, switch, repeat, Vertex, vertex, Vertices, no_vertices, and_vertex}
use Rattle.algo_tree.specs.Meaning.{asked_by, nodes}
use Rattle.algo_tree.specs.View.{vertices_of}
use Rattle.algo_tree.specs.Well.{fork_names}
use Rattle.algo_tree.proofs.Lists.{append_left, append_right, map_below, long_below, at_below, map_map}
use Rattle.flat_laws.specs.Lines.{in_line_order, fork_place}
use Rattle.flat_laws.specs.Unrolled.{explodes, copy_sources, copy as copy_vertex, implodes, give_sources, begin, unrolled_inside}
use Rattle.flat_laws.proofs.Lines.{AllLines, IsLine, lines-are, many-lines, place-below}
use Rattle.flat_laws.specs.Origins.{Origin, nowhere, origin_at, inside, port, output_of, Outlet, origin_by, origin_in, copy_input, copy_inputs, copy_output, give_origin, leads_by, outlets, body_leads}
use Rattle.flat_laws.proofs.Following.{given, matched, origin-is}
use Rattle.flat_laws.proofs.Rows.{unit_of, outlets-of}
use Rattle.syn_base.specs.Numbers.{numbers_below}

-- a delay leads to its get half, whatever it takes
blind : (p : Path) (k : Kind) (us : List Outlet) (body : ℕ → List Origin → ℕ → Origin) (f : Source → Origin) (ss : List Source) (q : ℕ)
    → leads_by p k us body (map f (asked_by k ss)) q ≡ leads_by p k us body (map f ss) q
blind p (sensor m) us body f ss q = refl
blind p (actuator m) us body f ss q = refl
blind p (constant v) us body f ss q = refl
blind p (delay vs) us body f ss q = refl
blind p (function es) us body f ss q = refl
blind p explode us body f ss q = refl
blind p implode us body f ss q = refl
blind p (merge values) us body f ss q = refl
blind p (graph sources) us body f ss q = refl
blind p (switch values names) us body f ss q = refl
blind p (repeat n feeds gives) us body f ss q = refl

abbrev none : ℕ → Origin
none q = nowhere

at-given : (us : List Outlet) (look : Source → Origin) (q r : ℕ) → given look q (slice_get us r) ≡ get_or (map (λ (u : Outlet) (j : ℕ). u.leads (map look u.asked) j) us) r none q
at-given [] look q r = refl
at-given (u ∷ us) look q zero = refl
at-given (u ∷ us) look q (suc r) = at-given us look q r

module _ (p : Path) (d : List ℕ) (n : ℕ) (feeds : List Feed) (gives : List Give) (lens : List ℕ) (lb : Label) (vs : Vertices) (own : List Origin) where
  abbrev c : ℕ
  c = begin feeds

  abbrev S : List Feed
  S = in_line_order feeds

  abbrev pub body : ℕ → List Origin → ℕ → Origin
  body i = body_leads (inside p (Numbered i)) (and_vertex (vertex lb vs) no_vertices)

  abbrev pub level : Vertices
  level = vertices_of (unrolled_inside d n feeds gives lens (and_vertex (vertex lb vs) no_vertices))

  abbrev copy : ℕ → ℕ → Origin
  copy = copy_output p feeds body own

  abbrev kid : ℕ → Vertex
  kid = copy_vertex c feeds lb vs

  abbrev explode_outs : List Feed → List (ℕ → Origin)
  explode_outs [] = []
  explode_outs (Fork name k len ∷ fs) = output_of (port p name) explode ∷ explode_outs fs
  explode_outs (Diffuse k ∷ fs) = explode_outs fs
  explode_outs (Iterate k y ∷ fs) = explode_outs fs

  abbrev implode_outs : List Give → List (ℕ → Origin)
  implode_outs [] = []
  implode_outs (Join name y ∷ gs) = output_of (port p name) implode ∷ implode_outs gs
  implode_outs (Last y ∷ gs) = implode_outs gs

  abbrev EV : List (ℕ → Origin)
  EV = explode_outs S

  abbrev CV : List (ℕ → Origin)
  CV = map copy (numbers_below n)

  abbrev IV : List (ℕ → Origin)
  IV = implode_outs gives

  abbrev expected : ℕ → ℕ → Origin
  expected r = get_or (EV ++ (CV ++ IV)) r none

  abbrev pub look : Source → Origin
  look = origin_by own expected

  abbrev F : Outlet → ℕ → Origin
  F u q = u.leads (map look u.asked) q

  long-explode_outs : (fs : List Feed) → length (explode_outs fs) ≡ length (fork_names fs)
  long-explode_outs [] = refl
  long-explode_outs (Fork name k len ∷ fs) = ap suc (long-explode_outs fs)
  long-explode_outs (Diffuse k ∷ fs) = long-explode_outs fs
  long-explode_outs (Iterate k y ∷ fs) = long-explode_outs fs

  long-explodes : c ≡ length EV
  long-explodes = sym (long-explode_outs S ∙ many-lines feeds)

  explodes-meet : (fs : List Feed) → map F (map (unit_of p) (explodes d n fs)) ≡ explode_outs fs
  explodes-meet [] = refl
  explodes-meet (Fork name k len ∷ fs) = ap (λ (xs : List (ℕ → Origin)). output_of (port p name) explode ∷ xs) (explodes-meet fs)
  explodes-meet (Diffuse k ∷ fs) = explodes-meet fs
  explodes-meet (Iterate k y ∷ fs) = explodes-meet fs

  implodes-meet : (gs : List Give) (j : ℕ) → map F (map (unit_of p) (implodes d c n lens j gs)) ≡ implode_outs gs
  implodes-meet [] j = refl
  implodes-meet (Join name y ∷ gs) j = ap (λ (xs : List (ℕ → Origin)). output_of (port p name) implode ∷ xs) (implodes-meet gs (suc j))
  implodes-meet (Last y ∷ gs) j = implodes-meet gs (suc j)

  -- the explode of the name of a fork line stands at its place
  at-name : (name : List ℕ) (k len : ℕ) (fs : List Feed) → IsLine (Fork name k len) fs → get_or (explode_outs fs) (fork_place name fs) none ≡ output_of (port p name) explode
  at-name name k len [] l = absurd l
  at-name name k len (Fork x j m ∷ fs) l = by (bytes_eq name x) refl (λ later. at-name name k len fs later)
    where
      by : (b : Bool) → bytes_eq name x ≡ b → (IsLine (Fork name k len) fs → get_or (explode_outs fs) (fork_place name fs) none ≡ output_of (port p name) explode)
          → get_or (output_of (port p x) explode ∷ explode_outs fs) (cond b 0 (suc (fork_place name fs))) none ≡ output_of (port p name) explode
      by true e go = let same : name ≡ x = (bytes_eq-Decides name x).0 e in ap (λ y. output_of (port p y) explode) (sym same)
      by false e go = elim l [
        | inl same ↦ let is : name ≡ x = cc in let test = (bytes_eq-Decides name x).1 is in cc
        | inr later ↦ go later
      ]
  at-name name k len (Diffuse j ∷ fs) l = elim l [ inl same ↦ cc | inr later ↦ at-name name k len fs later ]
  at-name name k len (Iterate j y ∷ fs) l = elim l [ inl same ↦ cc | inr later ↦ at-name name k len fs later ]

  at-explode : (name : List ℕ) (k len : ℕ) → IsLine (Fork name k len) S → expected (fork_place name S) ≡ output_of (port p name) explode
  at-explode name k len line =
      let below = place-below name k len S line in
      let many = many-lines feeds in
      let long = long-explodes in
      append_left EV (CV ++ IV) (fork_place name S) none (omega (arith, below, many, long)) ∙ at-name name k len S line

  at-copy : (i : ℕ) → i < n → expected (c + i) ≡ copy i
  at-copy i lt =
      let e : c ≡ length EV = long-explodes in
      ap (λ k. get_or (EV ++ (CV ++ IV)) (k + i) none) e ∙ append_right EV (CV ++ IV) i none ∙ append_left CV IV i none (let k = long_below n copy in omega (arith, k)) ∙ at_below n copy i none lt

  at-implode : (j : ℕ) → expected (c + n + j) ≡ get_or IV j none
  at-implode j =
      let e : c ≡ length EV = long-explodes in
      let k : length CV ≡ n = long_below n copy in
      ap expected (let r : c + n + j ≡ c + (n + j) = omega arith in r) ∙ ap (λ m. get_or (EV ++ (CV ++ IV)) (m + (n + j)) none) e ∙ append_right EV (CV ++ IV) (n + j) none
      ∙ ap (λ m. get_or (CV ++ IV) (m + j) none) (sym k) ∙ append_right CV IV j none

  -- what the copy before a copy gives
  abbrev before : ℕ → ℕ → Origin
  before zero = none
  before (suc i) = copy i

  inputs-are : (i : ℕ) → copy_inputs p feeds body own i ≡ map (copy_input p own (before i) i) feeds
  inputs-are zero = refl
  inputs-are (suc i) = refl

  iterated : (i k y : ℕ) → i < n → look (cond (i == 0) (Own k) (Of (c + (i - 1)) y)) ≡ cond (i == 0) (origin_at own k) (before i y)
  iterated zero k y lt = refl
  iterated (suc i) k y lt =
      let test : (suc i == 0) ≡ false = eqb-suc-zero i in
      let last : expected (c + (suc i - 1)) ≡ copy i = ap (λ m. expected (c + m)) (omega arith) ∙ at-copy i (omega arith) in
      rw test (ap (λ (f : ℕ → Origin). f y) last)

  inputs-meet : (i : ℕ) → i < n → (fs : List Feed) → AllLines (λ f. IsLine f S) fs → map look (copy_sources c i S fs) ≡ map (copy_input p own (before i) i) fs
  inputs-meet i lt [] h = refl
  inputs-meet i lt (Fork name k len ∷ fs) h = ap₂ (λ x xs. x ∷ xs) (ap (λ (f : ℕ → Origin). f i) (at-explode name k len h.0)) (inputs-meet i lt fs h.1)
  inputs-meet i lt (Diffuse k ∷ fs) h = ap (λ xs. origin_at own k ∷ xs) (inputs-meet i lt fs h.1)
  inputs-meet i lt (Iterate k y ∷ fs) h = ap₂ (λ x xs. x ∷ xs) (iterated i k y lt) (inputs-meet i lt fs h.1)

  -- the sources of copy i lead to where its inputs lead
  pub inputs-lead : (i : ℕ) → i < n → map look (copy_sources c i S feeds) ≡ copy_inputs p feeds body own i
  inputs-lead i lt = inputs-meet i lt feeds (lines-are feeds) ∙ sym (inputs-are i)

  copy-meets : (i : ℕ) → i < n → F (unit_of p (kid i)) ≡ copy i
  copy-meets i lt = fun_ext (λ q.
      blind (inside p (Numbered i)) lb.kind (outlets (inside p (Numbered i)) vs) (λ j. body_leads (inside (inside p (Numbered i)) (Numbered j)) vs) look (copy_sources c i S feeds) q
      ∙ ap (λ xs. leads_by (inside p (Numbered i)) lb.kind (outlets (inside p (Numbered i)) vs) (λ j. body_leads (inside (inside p (Numbered i)) (Numbered j)) vs) xs q) (inputs-lead i lt))

  copies-meet : map F (map (unit_of p) (map kid (numbers_below n))) ≡ CV
  copies-meet =
      ap (map F) (map_map (unit_of p) kid (numbers_below n)) ∙ map_map F (λ i. unit_of p (kid i)) (numbers_below n) ∙ map_below n (λ i. F (unit_of p (kid i))) copy copy-meets

  all-meet : map F (outlets p level) ≡ EV ++ (CV ++ IV)
  all-meet =
      let es = explodes d n S in
      let ks = map kid (numbers_below n) in
      let is = implodes d c n lens 0 gives in
      ap (map F) (outlets-of p (es ++ (ks ++ is)) ∙ map-append (unit_of p) es (ks ++ is))
      ∙ map-append F (map (unit_of p) es) (map (unit_of p) (ks ++ is))
      ∙ ap₂ (λ xs ys. xs ++ ys) (explodes-meet S)
      (ap (map F) (map-append (unit_of p) ks is) ∙ map-append F (map (unit_of p) ks) (map (unit_of p) is) ∙ ap₂ (λ xs ys. xs ++ ys) copies-meet (implodes-meet gives 0))

  meets : (r q : ℕ) → given look q (slice_get (outlets p level) r) ≡ look (Of r q)
  meets r q = at-given (outlets p level) look q r ∙ ap (λ (xs : List (ℕ → Origin)). get_or xs r none q) all-meet

  -- where the sources of the level lead
  pub level-leads : IsAcyclic (nodes level) → origin_in (outlets p level) own ≡ look
  level-leads acyclic = fun_ext (origin-is (outlets p level) (nodes level) (matched p level) own look (λ k. refl) meets acyclic)

  gives-meet : 0 < n → (m : ℕ) (gs : List Give) → ((j : ℕ) → expected (c + n + (m + j)) ≡ get_or (implode_outs gs) j none) → map look (give_sources c n m gs) ≡ map (give_origin p copy n) gs
  gives-meet some m [] h = refl
  gives-meet some m (Join name y ∷ gs) h =
      ap₂ (λ x xs. x ∷ xs) (ap (λ (f : ℕ → Origin). f 0) (ap expected (omega arith) ∙ h 0)) (gives-meet some (suc m) gs (λ j. ap expected (omega arith) ∙ h (suc j)))
  gives-meet some m (Last y ∷ gs) h = ap₂ (λ x xs. x ∷ xs) (ap (λ (f : ℕ → Origin). f y) (at-copy (n - 1) (omega arith))) (gives-meet some m gs h)

  -- where the outputs of the graph lead
  pub outputs-lead : 0 < n → map look (give_sources c n 0 gives) ≡ map (give_origin p copy n) gives
  outputs-lead some = gives-meet some 0 gives (λ j. ap (λ k. expected (c + n + k)) (zero-add j) ∙ at-implode j)

  -- what an implode reads
  pub joined-lead : (y : ℕ) → map look (map (λ i. Of (c + i) y) (numbers_below n)) ≡ map (λ i. copy i y) (numbers_below n)
  joined-lead y =
      map_map look (λ i. Of (c + i) y) (numbers_below n) ∙ map_below n (λ i. look (Of (c + i) y)) (λ i. copy i y) (λ i lt. ap (λ (f : ℕ → Origin). f y) (at-copy i lt))
