-- Where no node reaches itself, each is settled in as many rounds as there are nodes.
use Rattle.std.proofs.Common.{◌≡◌, ℕ, zero, suc, ◌<◌, ◌≤◌, ◌⊎◌, inl, inr, List, [], ◌∷◌, length, Bool, true, false, ◌&&◌, ◌||◌, Some, slice_get, eqb, refl, sym, ap, subst, arith}
use Rattle.std.specs.List.{AllByRecursion, IsDistinct, list_any}
use Rattle.std.proofs.lemmas.Bool.{false≢true, eqb-true}
use Rattle.std.proofs.lemmas.Map.Steps.{length-le_from_distinct_below}
use Rattle.level_meaning.specs.declared.source.Guard.{Guard}
use Rattle.level_meaning.specs.declared.source.Source.{Source}
use Rattle.level_meaning.specs.declared.source.Source.TheVariants.{Own, Of}
use Rattle.level_meaning.specs.Level.{Node}
use Rattle.level_meaning.specs.Order.{source_ready, sources_ready, guards_ready, is_ready, settled, IsAcyclic}
use Rattle.level_meaning.specs.Cycles.{IsOf, IsAmong, IsGuarding, Asks, Reaches, asks, goes, ReachesNoneItself, AllInRange}

one_false : (a b : Bool) → (a && b) ≡ false → (a ≡ false) ⊎ (b ≡ false)
one_false true b h = inr h
one_false false b h = inl refl

one_true : (a b : Bool) → (a || b) ≡ true → (a ≡ true) ⊎ (b ≡ true)
one_true true b h = inl refl
one_true false b h = inr h

-- what is not ready asks for something that is not done
module _ (done : ℕ → Bool) where
  unready_source : (s : Source) → source_ready done s ≡ false → (q : ℕ) × IsOf q s × (done q ≡ false)
  unready_source (Own k) h = absurd (false≢true (sym h))
  unready_source (Of r p) h = (r, refl, h)

  unready_sources : (ss : List Source) → sources_ready done ss ≡ false → (q : ℕ) × IsAmong q ss × (done q ≡ false)
  unready_sources [] h = absurd (false≢true (sym h))
  unready_sources (s ∷ ss) h = elim (one_false (source_ready done s) (sources_ready done ss) h) [
    | inl e ↦ let f = unready_source s e in (f.0, inl f.1, f.2)
    | inr e ↦ let f = unready_sources ss e in (f.0, inr f.1, f.2)
  ]

  unready_guards : (gs : List Guard) → guards_ready done gs ≡ false → (q : ℕ) × IsGuarding q gs × (done q ≡ false)
  unready_guards [] h = absurd (false≢true (sym h))
  unready_guards (g ∷ gs) h = elim (one_false (source_ready done g.source) (guards_ready done gs) h) [
    | inl e ↦ let f = unready_source g.source e in (f.0, inl f.1, f.2)
    | inr e ↦ let f = unready_guards gs e in (f.0, inr f.1, f.2)
  ]

  unready : (c : Node) → is_ready done c ≡ false → (q : ℕ) × (IsGuarding q c.guards ⊎ IsAmong q c.asked) × (done q ≡ false)
  unready c h = elim (one_false (guards_ready done c.guards) (sources_ready done c.asked) h) [
    | inl e ↦ let f = unready_guards c.guards e in (f.0, inl f.1, f.2)
    | inr e ↦ let f = unready_sources c.asked e in (f.0, inr f.1, f.2)
  ]

there : (cs : List Node) (r : ℕ) → r < length cs → (c : Node) × (slice_get cs r ≡ Some c)
there [] r lt = absurd (omega arith)
there (c ∷ cs) zero lt = (c, refl)
there (c ∷ cs) (suc r) lt = there cs r (omega arith)

module _ (cs : List Node) where
  abbrev IsPath : ℕ → List ℕ → Type 0
  IsPath r [] = Unit {0}
  IsPath r (x ∷ xs) = Asks cs r x × IsPath x xs

  pub further : {r q : ℕ} (y : ℕ) → Reaches cs r q → Asks cs q y → Reaches cs r y
  further y (asks a) b = goes a (asks b)
  further y (goes a rest) b = goes a (further y rest b)

  next_unsettled : (k r : ℕ) → r < length cs → settled cs (suc k) r ≡ false → (q : ℕ) × Asks cs r q × (settled cs k q ≡ false)
  next_unsettled k r lt h =
      let found = there cs r lt in
      let e : is_ready (settled cs k) found.0 ≡ false = rw found.1 at h in
      let f = unready (settled cs k) found.0 e in
      (f.0, record { at = found.0; is = found.1; by = f.1 }, f.2)

  -- a node that is not settled begins a path of as many steps
  path : AllInRange cs → (k r : ℕ) → r < length cs → settled cs k r ≡ false → (xs : List ℕ) × (length xs ≡ k) × IsPath r xs
  path ranged zero r lt h = ([], refl, tt)
  path ranged (suc k) r lt h =
      let n = next_unsettled k r lt h in
      let p = path ranged k n.0 (ranged r n.0 n.1) n.2 in
      (n.0 ∷ p.0, ap suc p.1, (n.1, p.2))

  apart : ReachesNoneItself cs → (r y : ℕ) (b : Bool) → eqb r y ≡ b → Reaches cs r y → b ≡ false
  apart none r y true e reach = absurd (none r (subst (λ z. Reaches cs r z) (sym (eqb-true r y e)) reach))
  apart none r y false e reach = refl

  all_apart : ReachesNoneItself cs → (r q : ℕ) (xs : List ℕ) → Reaches cs r q → IsPath q xs → AllByRecursion (λ y. eqb r y ≡ false) xs
  all_apart none r q [] reach p = tt
  all_apart none r q (y ∷ ys) reach p = let on = further y reach p.0 in (apart none r y (eqb r y) refl on, all_apart none r y ys on p.1)

  distinct : ReachesNoneItself cs → (r : ℕ) (xs : List ℕ) → IsPath r xs → IsDistinct eqb (r ∷ xs)
  unfolding IsDistinct
  distinct none r [] p = (tt, tt)
  distinct none r (x ∷ xs) p = ((apart none r x (eqb r x) refl (asks p.0), all_apart none r x xs (asks p.0) p.1), distinct none x xs p.1)

  later : AllInRange cs → (r : ℕ) (xs : List ℕ) → IsPath r xs → (q : ℕ) → list_any (eqb q) xs ≡ true → q < length cs
  later ranged r [] p q h = absurd (false≢true h)
  later ranged r (x ∷ xs) p q h = elim (one_true (eqb q x) (list_any (eqb q) xs) h) [
    | inl e ↦ let same : q ≡ x = eqb-true q x e in let lt : x < length cs = ranged r x p.0 in omega arith
    | inr e ↦ later ranged x xs p.1 q e
  ]

  in_range : AllInRange cs → (r : ℕ) (xs : List ℕ) → r < length cs → IsPath r xs → (q : ℕ) → list_any (eqb q) (r ∷ xs) ≡ true → q < length cs
  in_range ranged r xs lt p q h = elim (one_true (eqb q r) (list_any (eqb q) xs) h) [
    | inl e ↦ let same : q ≡ r = eqb-true q r e in omega arith
    | inr e ↦ later ranged r xs p q e
  ]

unsettled : (cs : List Node) → AllInRange cs → ReachesNoneItself cs → (r : ℕ) → r < length cs → (b : Bool) → settled cs (length cs) r ≡ b → b ≡ true
unsettled cs ranged none r lt true e = refl
unsettled cs ranged none r lt false e =
    let p = path cs ranged (length cs) r lt e in
    let few : length (r ∷ p.0) ≤ length cs = length-le_from_distinct_below (r ∷ p.0) (length cs) (distinct cs none r p.0 p.2) (in_range cs ranged r p.0 lt p.2) in
    let long : length p.0 ≡ length cs = p.1 in
    absurd (omega arith)

pub acyclic-from_reaching : (cs : List Node) → AllInRange cs → ReachesNoneItself cs → IsAcyclic cs
acyclic-from_reaching cs ranged none r lt = unsettled cs ranged none r lt (settled cs (length cs) r) refl
