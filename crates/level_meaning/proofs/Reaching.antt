-- What a settled node asks for is settled a round earlier, so that no chain of asking leads back to where it began.
use Rattle.std.proofs.Common.{◌≡◌, ℕ, zero, suc, ◌<◌, ◌≤◌, ◌⊎◌, inl, inr, List, [], ◌∷◌, length, Bool, true, false, Option, Some, None, slice_get, refl, subst, arith}
use Rattle.std.proofs.lemmas.Bool.{cases_lt, false≢true}
use Rattle.level_meaning.specs.declared.source.Guard.{Guard}
use Rattle.level_meaning.specs.declared.source.Source.{Source}
use Rattle.level_meaning.specs.declared.source.Source.TheVariants.{Own, Of}
use Rattle.level_meaning.specs.Level.{Node, with_node}
use Rattle.level_meaning.specs.Order.{source_ready, sources_ready, guards_ready, is_ready, settled, IsAcyclic}
use Rattle.level_meaning.specs.Cycles.{IsOf, IsAmong, IsGuarding, Asks, Reaches, asks, goes, ReachesNoneItself, AllInRange}
use Rattle.level_meaning.proofs.Fuel.{and-left, and-right, in_range}

module _ (done : ℕ → Bool) where
  source_done : (s : Source) (q : ℕ) → IsOf q s → source_ready done s ≡ true → done q ≡ true
  source_done (Own k) q of h = absurd of
  source_done (Of r p) q of h = subst (λ n. done n ≡ true) of h

  sources_done : (ss : List Source) (q : ℕ) → IsAmong q ss → sources_ready done ss ≡ true → done q ≡ true
  sources_done [] q among h = absurd among
  sources_done (s ∷ ss) q (inl of) h = source_done s q of (and-left (source_ready done s) (sources_ready done ss) h)
  sources_done (s ∷ ss) q (inr among) h = sources_done ss q among (and-right (source_ready done s) (sources_ready done ss) h)

  guards_done : (gs : List Guard) (q : ℕ) → IsGuarding q gs → guards_ready done gs ≡ true → done q ≡ true
  guards_done [] q guarding h = absurd guarding
  guards_done (g ∷ gs) q (inl of) h = source_done g.source q of (and-left (source_ready done g.source) (guards_ready done gs) h)
  guards_done (g ∷ gs) q (inr guarding) h = guards_done gs q guarding (and-right (source_ready done g.source) (guards_ready done gs) h)

  asked_done : (c : Node) (q : ℕ) → IsGuarding q c.guards ⊎ IsAmong q c.asked → is_ready done c ≡ true → done q ≡ true
  asked_done c q (inl guarding) h = guards_done c.guards q guarding (and-left (guards_ready done c.guards) (sources_ready done c.asked) h)
  asked_done c q (inr among) h = sources_done c.asked q among (and-right (guards_ready done c.guards) (sources_ready done c.asked) h)

settled_some : (o : Option Node) (done : ℕ → Bool) → with_node o false (is_ready done) ≡ true → o ≡ None → ⊥
settled_some None done h e = false≢true h
settled_some (Some c) done h e = cc

none_past : {A : Type 0} (xs : List A) (r : ℕ) → length xs ≤ r → slice_get xs r ≡ None
none_past [] r h = refl
none_past (x ∷ xs) zero h = absurd (omega arith)
none_past (x ∷ xs) (suc r) h = none_past xs r (omega arith)

-- what is settled is a node of the level
pub settled_range : (cs : List Node) (k r : ℕ) → settled cs k r ≡ true → r < length cs
settled_range cs zero r h = absurd (false≢true h)
settled_range cs (suc k) r h = elim (cases_lt r (length cs)) [
  | inl lt ↦ lt
  | inr past ↦ absurd (settled_some (slice_get cs r) (settled cs k) h (none_past cs r past))
]

module _ (cs : List Node) where
  asked_before : {r q : ℕ} (k : ℕ) → settled cs k r ≡ true → Asks cs r q → (j : ℕ) × (j < k) × (settled cs j q ≡ true)
  asked_before zero h a = absurd (false≢true h)
  asked_before {r} {q} (suc k) h a =
      let ready : is_ready (settled cs k) a.at ≡ true = rw a.is at h in
      let less : k < suc k = omega arith in
      (k, less, asked_done (settled cs k) a.at q a.by ready)

  reached_before : {r q : ℕ} (k : ℕ) → settled cs k r ≡ true → Reaches cs r q → (j : ℕ) × (j < k) × (settled cs j q ≡ true)
  reached_before k h (asks a) = asked_before k h a
  reached_before k h (goes a rest) =
      let one = asked_before k h a in
      let more = reached_before one.0 one.2 rest in
      let first = one.1 in
      let second = more.1 in
      let less : more.0 < k = omega arith in
      (more.0, less, more.2)

  no_return : (fuel k r : ℕ) → k ≤ fuel → settled cs k r ≡ true → Reaches cs r r → ⊥
  no_return zero k r le h loop = let back = (reached_before k h loop).1 in absurd (omega arith)
  no_return (suc fuel) k r le h loop =
      let back = reached_before k h loop in
      let less = back.1 in
      no_return fuel back.0 r (omega arith) back.2 loop

  begins : {r q : ℕ} → Reaches cs r q → (c : Node) × (slice_get cs r ≡ Some c)
  begins (asks a) = (a.at, a.is)
  begins (goes a rest) = (a.at, a.is)

  pub ranged-from_acyclic : IsAcyclic cs → AllInRange cs
  ranged-from_acyclic h r q a =
      let found = asked_before (length cs) (h r (in_range cs r a.at a.is)) a in
      settled_range cs found.0 q found.2

  pub reaching-from_acyclic : IsAcyclic cs → ReachesNoneItself cs
  reaching-from_acyclic h r loop =
      let first = begins loop in
      no_return (length cs) (length cs) r (omega arith) (h r (in_range cs r first.0 first.1)) loop
