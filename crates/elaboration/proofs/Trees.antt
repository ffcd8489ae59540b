-- Accepted marks may stand in the tree.
use Rattle.std.proofs.Common.{◌≡◌, ℕ, suc, ◌+◌, ◌≤◌, Bool, true, false, ◌&&◌, List, [], ◌∷◌, map, length, Option, Some, None, refl, sym, ap, subst, ◌∙◌, arith, if◌then◌else◌}
use Rattle.std.specs.Prelude.{Ok}
use Rattle.std.specs.List.{All}
use Rattle.syn_base.specs.Bytes.{Bytes}
use Rattle.algo_laws.specs.Refusals.{AlgoRefusal}
use Rattle.algo_laws.specs.declared.Port.{Port}
use Rattle.algo_laws.specs.declared.Source.{Source}
use Rattle.algo_laws.specs.declared.Part.{Part}
use Rattle.algo_laws.specs.declared.Part.TheVariants.{Named}
use Rattle.algo_laws.specs.Tree.{Label, Vertex, Vertices, and_vertex}
use Rattle.algo_laws.specs.TreeCode.{count_of}
use Rattle.algo_laws.specs.View.{vertices_of}
use Rattle.algo_laws.specs.declared.Def.{Def}
use Rattle.algo_laws.specs.declared.Body.{Body}
use Rattle.algo_laws.specs.declared.Body.TheVariants.{Sensor, Actuator, Constant, Delay, Function, Graph, Switch, Repeat}
use Rattle.algo_laws.specs.declared.Reference.{Reference}
use Rattle.algo_laws.specs.declared.Edge.{Edge}
use Rattle.algo_laws.specs.declared.AlgoCause.TheVariants.{BadEvery}
use Rattle.algo_laws.specs.RuleLinks.{fault, first_of, definition, is_main, may_be_inner}
use Rattle.algo_laws.specs.Ports.{ports_of, lens_of}
use Rattle.algo_laws.specs.declared.Ports.{Ports}
use Rattle.algo_laws.specs.Resolved.{Making, refusal, resolution_of, resolved_by, tree_of, vertex_within, vertex_by, references_from, kind_by, is_main_graph, sensor_count, actuator_count}
use Rattle.algo_laws.specs.WellRead.{AreWellRead}
use Rattle.algo_laws.proofs.Firsts.{Each, none_flat, none_each, each_all}
use Rattle.algo_laws.proofs.Standing.{definition_by, both}
use Rattle.algo_laws.proofs.Refused.{has_none, main_is_graph}
use Rattle.algo_laws.proofs.Accepted.{Accepted, accepted, own_ports}
use Rattle.algo_laws.proofs.Trees.{main, main_by}
use Rattle.multi_period.specs.declared.mark.Mark.{Mark}
use Rattle.multi_period.specs.Marks.{mark_at, IsMarkable, MayHave, MayHaveMarks, AreMarked, AreOnce}
use Rattle.elaboration.specs.Marking.{may_be_marked, may_stand_by, bad_by, bad_every, marks_from, marks_in, marking_by, marking_of}
use Rattle.elaboration.specs.Stand.{IsPeriod, HavePeriods}
use Rattle.elaboration.proofs.Outer.{AreApart, outs_apart}
use Rattle.elaboration.proofs.Numbers.{to_mark, mark_first, mark_later, once_from}
use Rattle.algo_laws.specs.Periods.{references_of}

-- what is known of a reference: where it has a mark, the mark is a number, and what it refers to may have one
abbrev IsGood : List Def → Option ℕ → Option Def → Type 0
IsGood ds None o = Unit {0}
IsGood ds (Some n) o = ((1 ≤ n) × (n ≤ 16)) × (may_be_marked o ≡ true)

good_by : (ds : List Def) (owner : Bytes) (r : Reference) (o : Option Def) (e : Option ℕ) → IsPeriod e
    → (if may_stand_by (is_main owner && may_be_marked o) e then None else fault r.line (BadEvery r.name)) ≡ None → IsGood ds e o
good_by ds owner r o None p h = tt
good_by ds owner r o (Some n) p h = (p, (both (is_main owner) (may_be_marked o) (good (is_main owner && may_be_marked o) h)).1)
  where
    good : (b : Bool) → (if b then None else fault r.line (BadEvery r.name)) ≡ None → b ≡ true
    good true k = refl
    good false k = cc

markable : (ds : List Def) (make : Making) (own : Ports) (s a : ℕ) (b : Body) → may_be_inner b ≡ true → IsMarkable (kind_by ds make own s a b)
markable ds make own s a (Function ins outs) h = tt
markable ds make own s a (Graph ins outs references edges) h = tt
markable ds make own s a (Switch on ins outs cases otherwise last) h = tt
markable ds make own s a (Repeat copies def lines) h = tt
markable ds make own s a (Sensor n) h = cc
markable ds make own s a (Actuator n) h = cc
markable ds make own s a (Constant values) h = cc
markable ds make own s a (Delay depth values) h = cc

as_many : (ps : List Port) → length (map (λ p. p.name) ps) ≡ length (lens_of ps)
as_many [] = refl
as_many (p ∷ ps) = ap suc (as_many ps)

may_at : (o p : Option Mark) (l : Label) → o ≡ p → MayHave p l → MayHave o l
may_at o p l e h = subst (λ m. MayHave m l) (sym e) h

module _ (ds : List Def) (acc : Accepted ds) (make : Making) (part : Part) (w : Bytes) (ins : List Source) (s a : ℕ) where
  one_by : (k : ℕ) (e : Option ℕ) (o : Option Def) → definition ds w ≡ o → IsGood ds e o → (mark : ℕ → Option Mark) (us : Vertices) → mark 0 ≡ to_mark k e
      → AreMarked (λ i. mark (suc i)) us → AreMarked mark (and_vertex (vertex_by ds make part w ins s a o) us)
  one_by k None None at good mark us first rest = (may_at (mark 0) None _ first tt, rest)
  one_by k None (Some d) at good mark us first rest = (may_at (mark 0) None _ first tt, rest)
  one_by k (Some n) None at good mark us first rest = let no : false ≡ true = good.1 in cc
  one_by k (Some n) (Some d) at good mark us first rest =
      let apart : AreApart (ports_of ds w).outs =
      subst (λ (p : Ports). AreApart p.outs) (sym (own_ports ds acc.ranked w d at)) (outs_apart (ports_of ds) d.body (acc.well_read w d at) good.1) in (
        may_at (mark 0) (to_mark k (Some n)) _ first (record {
          some = good.0.0;
          few = good.0.1;
          kind = markable ds make (ports_of ds w) s a d.body good.1;
          guards = refl;
          named = as_many (ports_of ds w).outs;
          distinct = apart.distinct;
          words = apart.words;
        }),
        rest,
      )

module _ (ds : List Def) (acc : Accepted ds) (n : ℕ) (ins : List Port) (all : List Reference) (edges : List Edge) where
  abbrev made : ℕ → ℕ → List Reference → Vertices
  made s a rs = vertices_of (references_from ds (vertex_within ds (suc n)) ins all edges s a rs)

  each_stands : (s a k : ℕ) (rs : List Reference) (mark : ℕ → Option Mark) → ((i : ℕ) → mark i ≡ mark_at (marks_from k rs) (k + i)) → Each (λ r. IsGood ds r.every (definition ds r.def)) rs
      → AreMarked mark (made s a rs)
  each_stands s a k [] mark is good = tt
  each_stands s a k (r ∷ rs) mark is good =
      let rest = each_stands (s + sensor_count (definition ds r.def)) (a + actuator_count (definition ds r.def)) (suc k) rs (λ i. mark (suc i)) (λ i. is (suc i) ∙ mark_later k i r rs) good.1 in
      one_by ds acc (vertex_within ds n) (Named r.name) r.def _ s a k r.every (definition ds r.def) refl good.0 mark
      (made (s + sensor_count (definition ds r.def)) (a + actuator_count (definition ds r.def)) rs) (is 0 ∙ mark_first k r rs) rest

  counted : (s a : ℕ) (rs : List Reference) → count_of (made s a rs) ≡ length rs
  counted s a [] = refl
  counted s a (r ∷ rs) = ap suc (counted (s + sensor_count (definition ds r.def)) (a + actuator_count (definition ds r.def)) rs)

  graph_stands : (rs : List Reference) → Each (λ r. IsGood ds r.every (definition ds r.def)) rs
      → AreMarked (mark_at (marks_from 0 rs)) (made 0 0 rs) × AreOnce (count_of (made 0 0 rs)) (marks_from 0 rs)
  graph_stands rs good = (
    each_stands 0 0 0 rs (mark_at (marks_from 0 rs)) (λ i. ap (mark_at (marks_from 0 rs)) (plain i)) good,
    subst (λ m. AreOnce m (marks_from 0 rs)) (sym (counted 0 0 rs)) (once_from (length rs) 0 rs (omega arith)),
  )
    where
      plain : (i : ℕ) → i ≡ 0 + i
      plain i = omega arith

main_stands : (ds : List Def) → Accepted ds → (b : Body) (line : ℕ) (name : Bytes) (o : Option Def) → o ≡ Some (record { name = name; line = line; body = b }) → is_main_graph b ≡ true
    → Each (λ r. IsGood ds r.every (definition ds r.def)) (references_of b)
    → MayHaveMarks (marks_in o) (vertex_by ds (vertex_within ds 7) (Named main) main [] 0 0 o)
main_stands ds acc b line name None e h good = cc
main_stands ds acc b line name (Some x) e h good =
    let same : x ≡ record { name = name; line = line; body = b } = cc in
    subst (λ (y : Def). MayHaveMarks (marks_in (Some y)) (vertex_by ds (vertex_within ds 7) (Named main) main [] 0 0 (Some y))) (sym same) (by b h good)
  where
    by : (b : Body) → is_main_graph b ≡ true → Each (λ r. IsGood ds r.every (definition ds r.def)) (references_of b)
        → MayHaveMarks (marks_from 0 (references_of b)) (vertex_by ds (vertex_within ds 7) (Named main) main [] 0 0 (Some (record { name = name; line = line; body = b })))
    by (Graph ins outs references edges) k good =
        let all = graph_stands ds acc 6 ins references edges references good in
        record { stand = all.0; once = all.1 }
    by (Sensor len) k good = cc
    by (Actuator len) k good = cc
    by (Constant values) k good = cc
    by (Delay depth values) k good = cc
    by (Function ins outs) k good = cc
    by (Switch on ins outs cases otherwise last) k good = cc
    by (Repeat copies def lines) k good = cc

-- the references of `main`
main_good : (ds : List Def) → HavePeriods ds → bad_every ds ≡ None → (d : Def) → definition ds main ≡ Some d → Each (λ r. IsGood ds r.every (definition ds r.def)) (references_of d.body)
main_good ds periods none d e =
    let good : Each (λ r. bad_by ds d.name r ≡ None) (references_of d.body) =
    none_each (bad_by ds d.name) (references_of d.body)
    (definition_by (λ x. first_of (map (bad_by ds x.name) (references_of x.body)) ≡ None) ds main d (none_flat (λ x. map (bad_by ds x.name) (references_of x.body)) ds none) e) in
    let numbers : All (λ r. IsPeriod r.every) (references_of d.body) =
    definition_by (λ x. All (λ r. IsPeriod r.every) (references_of x.body)) ds main d (each_all (λ x. All (λ r. IsPeriod r.every) (references_of x.body)) ds periods) e in
    two (references_of d.body) good (each_all (λ r. IsPeriod r.every) (references_of d.body) numbers)
  where
    two : (rs : List Reference) → Each (λ r. bad_by ds d.name r ≡ None) rs → Each (λ r. IsPeriod r.every) rs → Each (λ r. IsGood ds r.every (definition ds r.def)) rs
    two [] g p = tt
    two (r ∷ rs) g p = (good_by ds d.name r (definition ds r.def) r.every p.0 g.0, two rs g.1 p.1)

resolved_is : (ds : List Def) (o : Option AlgoRefusal) (u : Vertex) → resolved_by ds o ≡ Ok u → (o ≡ None) × (tree_of ds ≡ u)
resolved_is ds None u h = (refl, cc)
resolved_is ds (Some e) u h = cc

marked_is : (ds : List Def) (o : Option AlgoRefusal) (ms : List Mark) → marking_by ds o ≡ Ok ms → (o ≡ None) × (marks_in (definition ds main) ≡ ms)
marked_is ds None ms h = (refl, cc)
marked_is ds (Some e) ms h = cc

pub marks_stand : (ds : List Def) (u : Vertex) (ms : List Mark) → AreWellRead ds → HavePeriods ds → resolution_of ds ≡ Ok u → marking_of ds ≡ Ok ms → MayHaveMarks ms u
marks_stand ds u ms read periods resolved marked =
    let r = resolved_is ds (refusal ds) u resolved in
    let m = marked_is ds (bad_every ds) ms marked in
    let none = has_none ds r.0 in
    let acc = accepted ds read none in
    let is = main_by ds (definition ds main) refl (main_is_graph ds none) in
    subst (λ (v : Vertex). MayHaveMarks ms v) r.1 (subst (λ (xs : List Mark). MayHaveMarks xs (tree_of ds)) m.1
    (main_stands ds acc is.0.body is.0.line is.0.name (definition ds main) is.1.0 is.1.1 (main_good ds periods m.0 is.0 is.1.0)))
