-- A level in which each source stands earlier has no cycle.
use Rattle.std.proofs.Common.{◌≡◌, ℕ, zero, suc, ◌<◌, List, [], ◌∷◌, length, Bool, true, false, ◌&&◌, Some, slice_get, refl, arith}
use Rattle.level_meaning.specs.declared.source.Guard.{Guard}
use Rattle.level_meaning.specs.declared.source.Source.{Source}
use Rattle.level_meaning.specs.declared.source.Source.TheVariants.{Own, Of}
use Rattle.level_meaning.specs.Level.{Node}
use Rattle.level_meaning.specs.Order.{source_ready, sources_ready, guards_ready, settled, IsAcyclic, IsBefore, AreBefore, GuardsBefore, IsInOrder}

both : (a b : Bool) → a ≡ true → b ≡ true → (a && b) ≡ true
both true b h k = k
both false b h k = h

there : (cs : List Node) (r : ℕ) → r < length cs → (c : Node) × (slice_get cs r ≡ Some c)
there [] r lt = absurd (omega arith)
there (c ∷ cs) zero lt = (c, refl)
there (c ∷ cs) (suc r) lt = there cs r (omega arith)

module _ (done : ℕ → Bool) (r : ℕ) (earlier : (q : ℕ) → q < r → done q ≡ true) where
  source_before : (s : Source) → IsBefore r s → source_ready done s ≡ true
  source_before (Own k) h = refl
  source_before (Of q p) h = earlier q h

  sources_before : (ss : List Source) → AreBefore r ss → sources_ready done ss ≡ true
  sources_before [] h = refl
  sources_before (s ∷ ss) h = both (source_ready done s) (sources_ready done ss) (source_before s h.0) (sources_before ss h.1)

  guards_before : (gs : List Guard) → GuardsBefore r gs → guards_ready done gs ≡ true
  guards_before [] h = refl
  guards_before (g ∷ gs) h = both (source_ready done g.source) (guards_ready done gs) (source_before g.source h.0) (guards_before gs h.1)

settled_below : (cs : List Node) → IsInOrder cs → (k r : ℕ) → r < k → r < length cs → settled cs k r ≡ true
settled_below cs order zero r lt in_range = absurd (omega arith)
settled_below cs order (suc k) r lt in_range =
    let found = there cs r in_range in
    let c = found.0 in
    let before = order r c found.1 in
    let earlier = λ (q : ℕ) (h : q < r). settled_below cs order k q (omega arith) (omega arith) in
    rw found.1 (both (guards_ready (settled cs k) c.guards) (sources_ready (settled cs k) c.asked)
    (guards_before (settled cs k) r earlier c.guards before.0) (sources_before (settled cs k) r earlier c.asked before.1))

pub acyclic-in_order : (cs : List Node) → IsInOrder cs → IsAcyclic cs
acyclic-in_order cs order r lt = settled_below cs order (length cs) r lt lt
