-- After a round, each vertex that is settled is done.
use Rattle.std.proofs.Common.{
  ◌≡◌,
  ℕ,
  zero,
  suc,
  ◌+◌,
  ◌<◌,
  inl,
  inr,
  List,
  [],
  ◌∷◌,
  ◌++◌,
  length,
  get_or,
  set,
  take,
  Bool,
  true,
  false,
  not,
  ◌&&◌,
  Option,
  Some,
  None,
  slice_get,
  refl,
  sym,
  ap,
  ◌∙◌,
  subst,
  arith,
  add-one,
  get_or-set_other,
  get_or-set_same,
  length-append,
  length-set,
  replicate,
}
use mathlib.Core.Path.{fun_ext}
use Rattle.std.proofs.lemmas.Bool.{cases_lt, false≢true}
use Rattle.std.proofs.lemmas.List.{take-append-le, get_or_append_left, length-replicate}
use Rattle.algo_tree.specs.declared.Source.{Source}
use Rattle.algo_tree.specs.declared.Source.TheVariants.{Own, Of}
use Rattle.algo_tree.specs.declared.Guard.{Guard}
use Rattle.algo_tree.specs.Level.{Node, with_node}
use Rattle.algo_tree.specs.Order.{source_ready, sources_ready, guards_ready, is_ready, settled}
use Rattle.algo_tree.proofs.Fuel.{and-left, and-right}
use Rattle.hierarchy.specs.Order.{is_among, MayRun, IsOrder, is_done}
use Rattle.hierarchy.specs.declared.order.Begun.{Begun}
use Rattle.hierarchy.specs.Begun.{AllMayRun, IsBegun, HasTried, HasRound, is_ready_at}
use Rattle.hierarchy.proofs.Among.{eqb_cases, among_end, among_other}

both : (a b : Bool) → a ≡ true → b ≡ true → (a && b) ≡ true
both true b h k = k
both false b h k = h

module _ (f g : ℕ → Bool) (more : (r : ℕ) → f r ≡ true → g r ≡ true) where
  more_source : (s : Source) → source_ready f s ≡ true → source_ready g s ≡ true
  more_source (Own k) h = refl
  more_source (Of r p) h = more r h

  more_sources : (ss : List Source) → sources_ready f ss ≡ true → sources_ready g ss ≡ true
  more_sources [] h = refl
  more_sources (s ∷ ss) h =
      both (source_ready g s) (sources_ready g ss) (more_source s (and-left (source_ready f s) (sources_ready f ss) h)) (more_sources ss (and-right (source_ready f s) (sources_ready f ss) h))

  more_guards : (gs : List Guard) → guards_ready f gs ≡ true → guards_ready g gs ≡ true
  more_guards [] h = refl
  more_guards (c ∷ gs) h =
      both (source_ready g c.source) (guards_ready g gs) (more_source c.source (and-left (source_ready f c.source) (guards_ready f gs) h))
      (more_guards gs (and-right (source_ready f c.source) (guards_ready f gs) h))

  pub more_ready : (c : Node) → is_ready f c ≡ true → is_ready g c ≡ true
  more_ready c h =
      both (guards_ready g c.guards) (sources_ready g c.asked)
      (more_guards c.guards (and-left (guards_ready f c.guards) (sources_ready f c.asked) h))
      (more_sources c.asked (and-right (guards_ready f c.guards) (sources_ready f c.asked) h))

  pub more_ready_at : (o : Option Node) → with_node o false (is_ready f) ≡ true → with_node o false (is_ready g) ≡ true
  more_ready_at None h = absurd (false≢true h)
  more_ready_at (Some c) h = more_ready c h

pub skipped : (d ready : Bool) → false ≡ (not d && ready) → ready ≡ true → d ≡ true
skipped true ready e h = refl
skipped false ready e h = absurd (false≢true (e ∙ h))

pub runs_undone : (d ready : Bool) → true ≡ (not d && ready) → d ≡ false
runs_undone true ready e = absurd (false≢true (sym e))
runs_undone false ready e = refl

pub runs_ready : (d ready : Bool) → true ≡ (not d && ready) → ready ≡ true
runs_ready true ready e = absurd (false≢true (sym e))
runs_ready false ready e = sym e

-- what is ready is a node of the level
pub ready_range : (cs : List Node) (f : Node → Bool) (q : ℕ) → with_node (slice_get cs q) false f ≡ true → q < length cs
ready_range [] f q h = absurd (false≢true h)
ready_range (c ∷ cs) f zero h = omega arith
ready_range (c ∷ cs) f (suc q) h = let k = ready_range cs f q h in omega (arith, k)

get_or-end : (xs : List ℕ) (r i : ℕ) → i ≡ length xs → get_or (xs ++ r ∷ []) i 0 ≡ r
get_or-end [] r i e = rw e refl
get_or-end (x ∷ xs) r zero e = absurd (omega arith)
get_or-end (x ∷ xs) r (suc i) e = get_or-end xs r i (omega arith)

take-end : (xs : List ℕ) (r i : ℕ) → i ≡ length xs → take i (xs ++ r ∷ []) ≡ xs
take-end [] r i e = rw e refl
take-end (x ∷ xs) r zero e = absurd (omega arith)
take-end (x ∷ xs) r (suc i) e = ap (λ ys. x ∷ ys) (take-end xs r i (omega arith))

-- one more entry
pub one_more : (cs : List Node) (order : List ℕ) (r : ℕ) → AllMayRun cs order → MayRun cs order r → AllMayRun cs (order ++ r ∷ [])
one_more cs order r each may i lt = elim (cases_lt i (length order)) [
  | inl lower ↦
      let front : take i (order ++ r ∷ []) ≡ take i order = take-append-le i order (r ∷ []) (omega arith) in
      let at : get_or (order ++ r ∷ []) i 0 ≡ get_or order i 0 = get_or_append_left order (r ∷ []) 0 i lower in
      rw (front, at) (each i lower)
  | inr above ↦
      let end : i ≡ length order = omega (arith, length-append order (r ∷ [])) in
      rw (take-end order r i end, get_or-end order r i end) may
]

pub may_by_flags : (cs : List Node) (order : List ℕ) (done : List Bool) (r : ℕ) (c : Node) → ((q : ℕ) → is_done done q ≡ is_among order q) → slice_get cs r ≡ Some c
    → is_done done r ≡ false → is_ready (is_done done) c ≡ true → MayRun cs order r
may_by_flags cs order done r c flags is undone ready =
    let same : is_done done ≡ is_among order = fun_ext flags in
    record { is_new = sym (flags r) ∙ undone; ready = rw is (subst (λ (f : ℕ → Bool). is_ready f c ≡ true) same ready) }

module _ (order : List ℕ) (done : List Bool) (r : ℕ) (lt : r < length done) where
  pub done_here : is_done (set done r true) r ≡ true
  done_here = get_or-set_same done r true false lt

  pub still_done : (q : ℕ) → is_done done q ≡ true → is_done (set done r true) q ≡ true
  still_done q h = elim (eqb_cases q r) [
    | inl same ↦ ap (is_done (set done r true)) same ∙ done_here
    | inr other ↦ get_or-set_other done r q true false other ∙ h
  ]

  pub flags_more : ((q : ℕ) → is_done done q ≡ is_among order q) → (q : ℕ) → is_done (set done r true) q ≡ is_among (order ++ r ∷ []) q
  flags_more flags q = elim (eqb_cases q r) [
    | inl same ↦ ap (is_done (set done r true)) same ∙ done_here ∙ sym (among_end order r) ∙ ap (is_among (order ++ r ∷ [])) (sym same)
    | inr other ↦ get_or-set_other done r q true false other ∙ flags q ∙ sym (among_other order r q other)
  ]

pub no_flags : (n q : ℕ) → is_done (replicate n false) q ≡ false
no_flags zero q = refl
no_flags (suc n) zero = refl
no_flags (suc n) (suc q) = no_flags n q

-- before any node has run
pub none_begun : (cs : List Node) (b : Begun) → b.order.items ≡ [] → b.done.items ≡ replicate (length cs) false → IsBegun cs b
none_begun cs b none clear = record {
  flags = λ q. ap (λ ds. is_done ds q) clear ∙ no_flags (length cs) q ∙ sym (ap (λ xs. is_among xs q) none);
  dones = ap length clear ∙ length-replicate (length cs) false;
  each = λ i lt. let e : length b.order.items ≡ 0 = ap length none in absurd (omega (arith, e));
}

-- node r was not ready, or had run
pub tried_in_vain : (cs : List Node) (r : ℕ) (c : Node) (b : Begun) → slice_get cs r ≡ Some c → false
    ≡ (not (is_done b.done.items r) && is_ready (is_done b.done.items) c) → IsBegun cs b → HasTried cs r b b
tried_in_vain cs r c b is answer begun = record {
  begun = begun;
  still = λ q h. h;
  tried = λ h. skipped (is_done b.done.items r) (is_ready (is_done b.done.items) c) answer (rw is at h);
}

-- node r runs
pub tried_once : (cs : List Node) (r : ℕ) (c : Node) (old new : Begun) → slice_get cs r ≡ Some c → r < length cs → true ≡ (not (is_done old.done.items r) && is_ready (is_done old.done.items) c)
    → IsBegun cs old → new.order.items ≡ old.order.items ++ r ∷ [] → new.done.items ≡ set old.done.items r true → HasTried cs r old new
tried_once cs r c old new is lt answer begun order done =
    let xs = old.order.items in
    let ds = old.done.items in
    let long : r < length ds = omega (arith, begun.dones) in
    let undone = runs_undone (is_done ds r) (is_ready (is_done ds) c) answer in
    let ready = runs_ready (is_done ds r) (is_ready (is_done ds) c) answer in
    let may = may_by_flags cs xs ds r c begun.flags is undone ready in
    record {
      begun = record {
        flags = λ q. ap (λ fs. is_done fs q) done ∙ flags_more xs ds r long begun.flags q ∙ sym (ap (λ ys. is_among ys q) order);
        dones = ap length done ∙ length-set ds r true ∙ begun.dones;
        each = subst (λ ys. AllMayRun cs ys) (sym order) (one_more cs xs r begun.each may);
      };
      still = λ q h. ap (λ fs. is_done fs q) done ∙ still_done xs ds r long q h;
      tried = λ h. ap (λ fs. is_done fs r) done ∙ done_here xs ds r long;
    }

-- the nodes below r have been tried in this round, which began with old
pub record AreTried (cs : List Node) (r : ℕ) (old new : Begun) : Type 0 where
  pub begun : IsBegun cs new
  pub still : (q : ℕ) → is_done old.done.items q ≡ true → is_done new.done.items q ≡ true
  pub tried : (q : ℕ) → q < r → is_ready_at cs old q ≡ true → is_done new.done.items q ≡ true

pub none_tried : (cs : List Node) (b : Begun) → IsBegun cs b → AreTried cs 0 b b
none_tried cs b begun = record { begun = begun; still = λ q h. h; tried = λ q lt h. absurd (omega arith) }

pub one_more_tried : (cs : List Node) (r : ℕ) (old now new : Begun) → AreTried cs r old now → HasTried cs r now new → AreTried cs (r + 1) old new
one_more_tried cs r old now new before step = record {
  begun = step.begun;
  still = λ q h. step.still q (before.still q h);
  tried = λ q lt h. elim (eqb_cases q r) [
    | inl same ↦
        let here : is_ready_at cs old r ≡ true = sym (ap (is_ready_at cs old) same) ∙ h in
        ap (is_done new.done.items) same ∙ step.tried (more_ready_at (is_done old.done.items) (is_done now.done.items) before.still (slice_get cs r) here)
    | inr other ↦ step.still q (before.tried q (omega arith) h)
  ];
}

pub all_tried : (cs : List Node) (r : ℕ) (old new : Begun) → r ≡ length cs → AreTried cs r old new → HasRound cs old new
all_tried cs r old new all done = record {
  begun = done.begun;
  still = done.still;
  tried = λ q h. let lt : q < length cs = ready_range cs (is_ready (is_done old.done.items)) q h in done.tried q (omega arith) h;
}

pub settled_more : (cs : List Node) (k : ℕ) (old new : Begun) → ((q : ℕ) → settled cs k q ≡ true → is_done old.done.items q ≡ true) → HasRound cs old new
    → (q : ℕ) → settled cs (k + 1) q ≡ true → is_done new.done.items q ≡ true
settled_more cs k old new before round q h =
    let next : settled cs (suc k) q ≡ true = rw add-one at h in
    round.tried q (more_ready_at (settled cs k) (is_done old.done.items) before (slice_get cs q) next)

-- where all flags are set, the order is one of the whole level
pub order_if_done : (cs : List Node) (b : Begun) → IsBegun cs b → ((r : ℕ) → r < length cs → is_done b.done.items r ≡ true) → IsOrder cs b.order.items
order_if_done cs b begun all = record { each = begun.each; all = λ r lt. sym (begun.flags r) ∙ all r lt }
