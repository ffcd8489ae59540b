-- The vertex that is made of a definition stands for as many operations as are counted for it.
use Rattle.std.proofs.Common.{◌≡◌, ◌/◌, true, false, ℕ, zero, suc, ◌+◌, ◌*◌, Bool, ◌||◌, List, [], ◌∷◌, ◌++◌, map, length, Option, Some, None, refl, ap, ap₂, sym, subst, ◌∙◌, arith, if◌then◌else◌}
use Rattle.std.specs.Str.{bytes_eq}
use Rattle.std.specs.List.{flat_map, sum_by}
use Rattle.std.proofs.lemmas.List.Sums.{sum_by-cons}
use Rattle.std.proofs.lemmas.Slice.Eq.{bytes_eq-Decides}
use Rattle.level_meaning.specs.declared.source.Source.{Source}
use Rattle.level_meaning.specs.declared.part.Part.{Part}
use Rattle.level_meaning.specs.declared.part.Part.TheVariants.{Named, Numbered}
use Rattle.level_meaning.specs.declared.frontier.Feed.{Feed}
use Rattle.level_meaning.specs.declared.frontier.Feed.TheVariants as feed
use Rattle.level_meaning.specs.declared.frontier.Give.{Give}
use Rattle.syn_base.specs.Bytes.{Bytes}
use Rattle.algo_rules.specs.declared.Port.{Port}
use Rattle.algo_rules.specs.View.{vertices_of}
use Rattle.algo_rules.specs.Well.{IsNewName, AreDistinctNames, fork_names, join_names}
use Rattle.algo_rules.specs.Counted as counted
use Rattle.algo_rules.specs.declared.Def.{Def}
use Rattle.algo_rules.specs.declared.Body.{Body}
use Rattle.algo_rules.specs.declared.Body.TheVariants.{Sensor, Actuator, Constant, Delay, Function, Graph, Switch, Repeat}
use Rattle.algo_rules.specs.declared.Reference.{Reference}
use Rattle.algo_rules.specs.declared.Case.{Case}
use Rattle.algo_rules.specs.declared.Edge.{Edge}
use Rattle.algo_rules.specs.declared.Frontier.{Frontier}
use Rattle.algo_rules.specs.declared.Frontier.TheVariants.{Fork, Diffuse, Iterate, Join}
use Rattle.algo_rules.specs.declared.FrontierLine.{FrontierLine}
use Rattle.algo_rules.specs.Among.{is_among}
use Rattle.algo_rules.specs.Links.{Mention, mentions, mentions_in, definition}
use Rattle.algo_rules.specs.Ports.{ports_of, has_port, len_of, number_of}
use Rattle.algo_rules.specs.declared.ports.Ports.{Ports}
use Rattle.algo_rules.specs.Frontiers.{used_by}
use Rattle.algo_rules.specs.Resolved.{
  Making,
  vertex_within,
  vertex_by,
  references_from,
  cases_from,
  sources_to,
  owns,
  kind_by,
  inner_by,
  feed_by,
  first_feed,
  feed_of,
  give_by,
  count_by,
  count_in,
  count_within,
  body_fault,
  vertices_of_line,
  sensor_count,
  actuator_count,
}
use Rattle.algo_rules.specs.WellRead.{port_names}
use Rattle.algo_laws.proofs.Firsts.{Each}
use Rattle.algo_laws.proofs.Anywhere.{or_left, any_left, any_right}
use Rattle.algo_laws.proofs.Lengths.{turned, same_bytes}
use Rattle.algo_laws.specs.Depths.{rank}
use Rattle.algo_laws.proofs.Accepted.{IsLower, Accepted}
use Rattle.algo_laws.proofs.Sized.{fine}
use Rattle.algo_laws.proofs.Typing.{as_many_groups}
use Rattle.algo_laws.proofs.Frontiers.{LineFits, LinesFit, IsFresh, AreFresh, repeat_fits}

-- how many are fork lines
abbrev forks : Feed → ℕ
forks (feed.Fork name k len) = 1
forks (feed.Diffuse k) = 0
forks (feed.Iterate k y) = 0

fork_count : (fs : List Feed) → length (fork_names fs) ≡ sum_by forks fs
fork_count [] = refl
fork_count (f ∷ fs) = by f (fork_count fs) ∙ sym (sum_by-cons forks f fs)
  where
    by : (f : Feed) → length (fork_names fs) ≡ sum_by forks fs → length (fork_names (f ∷ fs)) ≡ forks f + sum_by forks fs
    by (feed.Fork name k len) rest = omega (arith, rest)
    by (feed.Diffuse k) rest = omega (arith, rest)
    by (feed.Iterate k y) rest = omega (arith, rest)

-- sums over ports with distinct names, one of which counts more
module _ (c : ℕ) (g h : Bytes → ℕ) (x : Bytes) (alike : (w : Bytes) → bytes_eq w x ≡ false → g w ≡ h w) (here : g x ≡ c) (none : h x ≡ 0) where
  abbrev total : (Bytes → ℕ) → List Port → ℕ
  total f ps = sum_by (λ p. f p.name) ps

  others : (ps : List Port) → IsNewName x (port_names ps) → total g ps ≡ total h ps
  others [] new = refl
  others (p ∷ ps) new =
      let one = alike p.name (turned x p.name new.0) in
      sum_by-cons (λ p. g p.name) p ps ∙ ap₂ (λ (m n : ℕ). m + n) one (others ps new.1) ∙ sym (sum_by-cons (λ p. h p.name) p ps)

  one_of : (ps : List Port) → AreDistinctNames (port_names ps) → has_port ps x ≡ true → total g ps ≡ c + total h ps
  one_of [] new there = cc
  one_of (p ∷ ps) new there = by (bytes_eq x p.name) refl there (λ k. one_of ps new.1 k)
    where
      by : (b : Bool) → bytes_eq x p.name ≡ b → (b || has_port ps x) ≡ true → (has_port ps x ≡ true → total g ps ≡ c + total h ps) → total g (p ∷ ps) ≡ c + total h (p ∷ ps)
      by true e k rest =
          let same : x ≡ p.name = (bytes_eq-Decides x p.name).0 e in
          let first : g p.name ≡ c = subst (λ (v : Bytes). g v ≡ c) same here in
          let second : h p.name ≡ 0 = subst (λ (v : Bytes). h v ≡ 0) same none in
          let behind = others ps (subst (λ (v : Bytes). IsNewName v (port_names ps)) (sym same) new.0) in
          omega (arith, first, second, behind, sum_by-cons (λ p. g p.name) p ps, sum_by-cons (λ p. h p.name) p ps)
      by false e k rest =
          let one = alike p.name (turned x p.name e) in
          omega (arith, one, rest k, sum_by-cons (λ p. g p.name) p ps, sum_by-cons (λ p. h p.name) p ps)

among_last : (x : Bytes) (xs : List Bytes) → is_among x (xs ++ x ∷ []) ≡ true
among_last x xs = any_right (bytes_eq x) xs (x ∷ []) (or_left (bytes_eq x x) false (same_bytes x))

module _ (copies : ℕ) (inner own : Ports) where
  abbrev fed : List FrontierLine → Bytes → Feed
  fed ls w = feed_of inner own ls w

  abbrev forked : List FrontierLine → Bytes → ℕ
  forked ls w = forks (fed ls w)

  abbrev gives : List FrontierLine → List Give
  gives ls = flat_map (λ l. give_by inner own l.frontier) ls

  -- what a line before uses is not used again
  unused : (used : List Bytes) (ls : List FrontierLine) (x : Bytes) → AreFresh copies inner used ls → is_among x used ≡ true → forked ls x ≡ 0
  unused used [] x fresh h = refl
  unused used (l ∷ ls) x fresh h = by l.frontier fresh.0 (unused (used ++ used_by l.frontier) ls x fresh.1 (any_left (bytes_eq x) used (used_by l.frontier) h))
    where
      one : (b : Bool) (y : Bytes) (f : Feed) → bytes_eq x y ≡ b → is_among y used ≡ false → forked ls x ≡ 0 → forks (first_feed inner own (if b then Some f else None) (fed ls x)) ≡ 0
      one true y f e k rest =
          let same : x ≡ y = (bytes_eq-Decides x y).0 e in
          let no : is_among x used ≡ false = subst (λ (v : Bytes). is_among v used ≡ false) (sym same) k in cc
      one false y f e k rest = rest

      by : (f : Frontier) → IsFresh copies inner used f → forked ls x ≡ 0 → forks (first_feed inner own (feed_by inner own x f) (fed ls x)) ≡ 0
      by (Fork p y) k rest = one (bytes_eq x y) y (feed.Fork p (number_of own.ins p) (len_of inner.ins y)) refl k.0 rest
      by (Diffuse p y) k rest = one (bytes_eq x y) y (feed.Diffuse (number_of own.ins p)) refl k.0 rest
      by (Iterate p y z q) k rest = one (bytes_eq x y) y (feed.Iterate (number_of own.ins p) (number_of inner.outs z)) refl k.0 rest
      by (Join y q) k rest = rest

  no_forks : (ps : List Port) → sum_by (λ p. forked [] p.name) ps ≡ 0
  no_forks [] = refl
  no_forks (p ∷ ps) = omega (arith, sum_by-cons (λ p. forked [] p.name) p ps, no_forks ps)

  -- a line that uses x, in front of others that do not
  used_first : (ls : List FrontierLine) (x : Bytes) (f : Feed) → forked ls x ≡ 0 → (ps : List Port) → AreDistinctNames (port_names ps) → has_port ps x ≡ true
      → sum_by (λ p. forks (first_feed inner own (if bytes_eq p.name x then Some f else None) (fed ls p.name))) ps ≡ forks f + sum_by (λ p. forked ls p.name) ps
  used_first ls x f none ps distinct there =
      one_of (forks f) (λ w. forks (first_feed inner own (if bytes_eq w x then Some f else None) (fed ls w))) (forked ls) x
      (λ w e. away w (bytes_eq w x) e) (at (bytes_eq x x) (same_bytes x)) none ps distinct there
    where
      away : (w : Bytes) (b : Bool) → b ≡ false → forks (first_feed inner own (if b then Some f else None) (fed ls w)) ≡ forked ls w
      away w true e = cc
      away w false e = refl

      at : (b : Bool) → b ≡ true → forks (first_feed inner own (if b then Some f else None) (fed ls x)) ≡ forks f
      at true e = refl
      at false e = cc

  -- the lines with this one in front are counted
  abbrev AreCounted : ℕ → List FrontierLine → Frontier → Type 0
  AreCounted line ls f =
      sum_by (λ p. forks (first_feed inner own (feed_by inner own p.name f) (fed ls p.name))) inner.ins + length (join_names (give_by inner own f ++ gives ls))
      ≡ vertices_of_line (record { line = line; frontier = f }) + sum_by vertices_of_line ls

  all_lines : (used : List Bytes) (ls : List FrontierLine) → LinesFit copies inner ls → AreFresh copies inner used ls → AreDistinctNames (port_names inner.ins)
      → sum_by (λ p. forked ls p.name) inner.ins + length (join_names (gives ls)) ≡ sum_by vertices_of_line ls
  all_lines used [] fit fresh distinct = no_forks_here
    where
      no_forks_here : sum_by (λ p. forked [] p.name) inner.ins + 0 ≡ 0
      no_forks_here = omega (arith, no_forks inner.ins)
  all_lines used (l ∷ ls) fit fresh distinct =
      by l.frontier fit.0 (λ x k. unused (used ++ used_by l.frontier) ls x fresh.1 k) (λ x e. subst (λ (xs : List Bytes). is_among x (used ++ xs) ≡ true) (sym e) (among_last x used)) refl
      (all_lines (used ++ used_by l.frontier) ls fit.1 fresh.1 distinct) ∙ sym (sum_by-cons vertices_of_line l ls)
    where
      by : (f : Frontier) → LineFits copies inner f → ((x : Bytes) → is_among x (used ++ used_by l.frontier) ≡ true → forked ls x ≡ 0)
          → ((x : Bytes) → used_by l.frontier ≡ x ∷ [] → is_among x (used ++ used_by l.frontier) ≡ true) → l.frontier ≡ f
          → sum_by (λ p. forked ls p.name) inner.ins + length (join_names (gives ls)) ≡ sum_by vertices_of_line ls → AreCounted l.line ls f
      by (Fork p x) k later known e rest =
          omega (arith, rest, used_first ls x (feed.Fork p (number_of own.ins p) (len_of inner.ins x)) (later x (known x (ap used_by e))) inner.ins distinct k.0)
      by (Diffuse p x) k later known e rest =
          omega (arith, rest, used_first ls x (feed.Diffuse (number_of own.ins p)) (later x (known x (ap used_by e))) inner.ins distinct k.0)
      by (Iterate p x y q) k later known e rest =
          omega (arith, rest, used_first ls x (feed.Iterate (number_of own.ins p) (number_of inner.outs y)) (later x (known x (ap used_by e))) inner.ins distinct k.0.0)
      by (Join y q) k later known e rest = omega (arith, rest)

  summed : (ls : List FrontierLine) (ps : List Port) → sum_by forks (map (λ p. fed ls p.name) ps) ≡ sum_by (λ p. forked ls p.name) ps
  summed ls [] = refl
  summed ls (p ∷ ps) =
      sum_by-cons forks (fed ls p.name) (map (λ p. fed ls p.name) ps) ∙ ap (λ (m : ℕ). forked ls p.name + m) (summed ls ps) ∙ sym (sum_by-cons (λ p. forked ls p.name) p ps)

  pub line_count : (ls : List FrontierLine) → LinesFit copies inner ls → AreFresh copies inner [] ls → AreDistinctNames (port_names inner.ins)
      → length (fork_names (map (λ p. fed ls p.name) inner.ins)) + length (join_names (gives ls)) ≡ sum_by vertices_of_line ls
  line_count ls fit fresh distinct = ap (λ (m : ℕ). m + length (join_names (gives ls))) (fork_count (map (λ p. fed ls p.name) inner.ins) ∙ summed ls inner.ins) ∙ all_lines [] ls fit fresh distinct

pub arranged : (f c j t : ℕ) → f + j ≡ t → (f + c) + j ≡ c + t
arranged f c j t h = omega (arith, h)

abbrev MakesCounted : Making → (Bytes → ℕ) → Type 0
MakesCounted make count = (part : Part) (w : Bytes) (ins : List Source) (s a : ℕ) → counted.operations (make part w ins s a) ≡ count w

module _ (ds : List Def) (make : Making) (count : Bytes → ℕ) (ih : MakesCounted make count) where
  references_counted : (ins : List Port) (all : List Reference) (edges : List Edge) (s a : ℕ) (rs : List Reference)
      → counted.operations_in (vertices_of (references_from ds make ins all edges s a rs)) ≡ sum_by (λ r. count r.def) rs
  references_counted ins all edges s a [] = refl
  references_counted ins all edges s a (r ∷ rs) =
      ap₂ (λ (m n : ℕ). m + n) (ih (Named r.name) r.def (sources_to (ports_of ds) ins all edges (Some r.name) (ports_of ds r.def).ins) s a)
      (references_counted ins all edges (s + sensor_count (definition ds r.def)) (a + actuator_count (definition ds r.def)) rs)
      ∙ sym (sum_by-cons (λ r. count r.def) r rs)

  cases_counted : (ins c : ℕ) (otherwise : Bytes) (cs : List Case)
      → counted.operations_in (vertices_of (cases_from ds make ins c (map (λ c. c.def) cs ++ otherwise ∷ []))) ≡ sum_by (λ c. count c.def) cs + count otherwise
  cases_counted ins c otherwise [] = let one = ih (Numbered c) otherwise (owns 1 ins) 0 0 in omega (arith, one)
  cases_counted ins c otherwise (x ∷ cs) =
      let one = ih (Numbered c) x.def (owns 1 ins) 0 0 in
      let rest = cases_counted ins (suc c) otherwise cs in
      omega (arith, one, rest, sum_by-cons (λ c. count c.def) x cs)

  as_many_names : (ps : List Port) → length (map (λ p. p.name) ps) ≡ length ps
  as_many_names [] = refl
  as_many_names (p ∷ ps) = ap suc (as_many_names ps)

  body_counted : Accepted ds → (own : Ports) (s a line : ℕ) (b : Body) → body_fault ds line b ≡ None → Each (λ m. AreDistinctNames (port_names (ports_of ds m.def).ins)) (mentions_in line b)
      → counted.operations_by (kind_by ds make own s a b) (counted.operations_in (vertices_of (inner_by ds make b))) ≡ count_by count b
  body_counted acc own s a line (Sensor len) none h = refl
  body_counted acc own s a line (Actuator len) none h = refl
  body_counted acc own s a line (Constant values) none h = refl
  body_counted acc own s a line (Delay depth values) none h = ap (λ (m : ℕ). 2 * m) (as_many_groups depth (length values / depth) values)
  body_counted acc own s a line (Function is os) none h = refl
  body_counted acc own s a line (Graph is os references edges) none h = references_counted is references edges 0 0 references
  body_counted acc own s a line (Switch on is os cases otherwise last) none h = ap₂ (λ (m n : ℕ). m + n) (cases_counted (length is) 0 otherwise cases) (as_many_names os)
  body_counted acc own s a line (Repeat copies def lines) none h =
      let body : Ports = ports_of ds def in
      let fits = repeat_fits copies body line lines none in
      let one = ih (Numbered 0) def (owns 0 (length body.ins)) 0 0 in
      let inner : counted.operations (make (Numbered 0) def (owns 0 (length body.ins)) 0 0) + 0 ≡ count def = omega (arith, one) in
      let feeds = map (λ p. feed_of body own lines p.name) body.ins in
      let gives = flat_map (λ l. give_by body own l.frontier) lines in
      ap (λ (m : ℕ). (length (fork_names feeds) + copies * m) + length (join_names gives)) inner
      ∙ arranged (length (fork_names feeds)) (copies * count def) (length (join_names gives)) (sum_by vertices_of_line lines) (line_count copies body own lines fits.lines fits.fresh h.0)

pub all_distinct : (ds : List Def) → Accepted ds → (n : ℕ) (ms : List Mention) → Each (λ m. IsLower ds n m.def) ms → Each (λ m. AreDistinctNames (port_names (ports_of ds m.def).ins)) ms
all_distinct ds acc n [] h = tt
all_distinct ds acc n (m ∷ ms) h = ((fine ds acc m.def h.0.0.0 h.0.0.1).distinct, all_distinct ds acc n ms h.1)

one_counted : (ds : List Def) → Accepted ds → (n : ℕ) → MakesCounted (vertex_within ds n) (count_within ds n)
    → (part : Part) (w : Bytes) (ins : List Source) (s a : ℕ) (o : Option Def) → definition ds w ≡ o
    → counted.operations (vertex_by ds (vertex_within ds n) part w ins s a o) ≡ count_in (count_within ds n) o
one_counted ds acc n ih part w ins s a None e = refl
one_counted ds acc n ih part w ins s a (Some d) e =
    body_counted ds (vertex_within ds n) (count_within ds n) ih acc (ports_of ds w) s a d.line d.body (acc.passed w d e) (all_distinct ds acc (rank ds w) (mentions d) (acc.ranked.lower w d e))

pub counted_within : (ds : List Def) → Accepted ds → (n : ℕ) → MakesCounted (vertex_within ds n) (count_within ds n)
counted_within ds acc zero part w ins s a = refl
counted_within ds acc (suc n) part w ins s a = one_counted ds acc n (λ p v i j k. counted_within ds acc n p v i j k) part w ins s a (definition ds w) refl
