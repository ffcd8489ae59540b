-- Where a source leads, hop by hop, and where an output of a copy leads, copy by copy.
use Rattle.std.proofs.Common.{
  ◌≡◌,
  ℕ,
  zero,
  suc,
  Bool,
  cond,
  ◌+◌,
  ◌<◌,
  ◌≤◌,
  List,
  [],
  ◌∷◌,
  drop,
  get_or,
  length,
  map,
  min,
  Option,
  Some,
  None,
  slice_get,
  slice_index_or,
  refl,
  sym,
  ap,
  ap₂,
  ◌∙◌,
  arith,
}
use Rattle.std.proofs.lemmas.Bool.{ne_eqb}
use Rattle.algo_laws.specs.declared.Source.{Source}
use Rattle.algo_laws.specs.declared.Feed.{Feed}
use Rattle.algo_laws.specs.declared.Feed.TheVariants.{Iterate}
use Rattle.wiring_laws.specs.Wiring.{Wire, copy_lead, feed_lead, lead_out, lead_source, pick, with_wire}
use Rattle.algo_resolve.specs.Rounds.{hop, level_of, source_at, unit_view}
use Rattle.algo_resolve.specs.declared.leads.Unit.{Unit}

-- what follows a hop
abbrev pub then_lead : List Wire → ℕ → Option Source → Option ℕ
then_lead ws fuel None = None
then_lead ws fuel (Some s) = lead_source (lead_out ws fuel) s

module _ (ws : List Wire) (fuel : ℕ) where
  at-input : (ins : List Source) (k : ℕ) → slice_index_or (map (lead_source (lead_out ws fuel)) ins) k None ≡ then_lead ws fuel (slice_get ins k)
  at-input [] k = refl
  at-input (s ∷ ins) zero = refl
  at-input (s ∷ ins) (suc k) = at-input ins k

  picked : (ins : List Source) (o : Option ℕ) → pick None (map (lead_source (lead_out ws fuel)) ins) o ≡ then_lead ws fuel (source_at ins o)
  picked ins None = refl
  picked ins (Some k) = at-input ins k

  pub one-hop : (r p : ℕ) → lead_out ws (suc fuel) r p ≡ then_lead ws fuel (hop ws r p)
  one-hop r p = by (slice_get ws r)
    where
      by : (o : Option Wire) → with_wire o None
          (λ w. pick None (map (lead_source (lead_out ws fuel)) w.ins) (slice_index_or w.leads p None))
          ≡ then_lead ws fuel (with_wire o None (λ w. source_at w.ins (slice_index_or w.leads p None)))
      by None = refl
      by (Some w) = picked w.ins (slice_index_or w.leads p None)

-- the vertex of a number, if there is one
pub no-unit : (us : List Unit) (r p : ℕ) → length us ≤ r → hop (map unit_view us) r p ≡ None
no-unit [] r p past = refl
no-unit (u ∷ us) zero p past = absurd (omega (arith, past))
no-unit (u ∷ us) (suc r) p past = no-unit us r p (omega (arith, past))

pub one-unit : (us : List Unit) (r p : ℕ) (u : Unit) → r < length us → u ≡ get_or us r u → hop (map unit_view us) r p ≡ source_at u.ins.now (slice_index_or u.leads.now p None)
one-unit [] r p u low is = absurd (omega (arith, low))
one-unit (v ∷ us) zero p u low is = ap (λ (x : Unit). source_at x.ins.now (slice_index_or x.leads.now p None)) (sym is)
one-unit (v ∷ us) (suc r) p u low is = one-unit us r p u (omega (arith, low)) is

-- the input of a number, if there is one
pub no-input : (ins : List Source) (o : Option ℕ) (k : ℕ) → o ≡ Some k → length ins ≤ k → source_at ins o ≡ None
no-input ins o k is past = ap (source_at ins) is ∙ past-all ins k past
  where
    past-all : (xs : List Source) (i : ℕ) → length xs ≤ i → slice_get xs i ≡ None
    past-all [] i h = refl
    past-all (x ∷ xs) zero h = absurd (omega (arith, h))
    past-all (x ∷ xs) (suc i) h = past-all xs i (omega (arith, h))

pub one-input : (ins : List Source) (o : Option ℕ) (k : ℕ) (s : Source) → o ≡ Some k → k < length ins → s ≡ get_or ins k s → source_at ins o ≡ Some s
one-input ins o k s is low here = ap (source_at ins) is ∙ found ins k low here
  where
    found : (xs : List Source) (i : ℕ) → i < length xs → s ≡ get_or xs i s → slice_get xs i ≡ Some s
    found [] i h e = absurd (omega (arith, h))
    found (x ∷ xs) zero h e = ap (λ (y : Source). Some y) (sym e)
    found (x ∷ xs) (suc i) h e = found xs i (omega (arith, h)) e

-- an output of a copy, by the line that feeds the input to which it leads
abbrev pub feed_at : List Feed → Option ℕ → Option Feed
feed_at feeds None = None
feed_at feeds (Some k) = slice_get feeds k

module _ (feeds : List Feed) (leads : List (Option ℕ)) where
  abbrev pub before : ℕ → ℕ → Option ℕ
  before zero y = None
  before (suc i) y = copy_lead feeds leads i y

  abbrev pub then_feed : ℕ → Option Feed → Option ℕ
  then_feed i None = None
  then_feed i (Some f) = feed_lead (before i) i f

  fed-at : (i : ℕ) (fs : List Feed) (k : ℕ) → slice_index_or (map (feed_lead (before i) i) fs) k None ≡ then_feed i (slice_get fs k)
  fed-at i [] k = refl
  fed-at i (f ∷ fs) zero = refl
  fed-at i (f ∷ fs) (suc k) = fed-at i fs k

  fed : (i : ℕ) (o : Option ℕ) → pick None (map (feed_lead (before i) i) feeds) o ≡ then_feed i (feed_at feeds o)
  fed i None = refl
  fed i (Some k) = fed-at i feeds k

  pub copy-step : (i y : ℕ) → copy_lead feeds leads i y ≡ then_feed i (feed_at feeds (slice_index_or leads y None))
  copy-step zero y = fed zero (slice_index_or leads y None)
  copy-step (suc i) y = fed (suc i) (slice_index_or leads y None)

  module _ (i y k : ℕ) (led : slice_index_or leads y None ≡ Some k) where
    step : copy_lead feeds leads i y ≡ then_feed i (slice_get feeds k)
    step = copy-step i y ∙ ap (λ (o : Option ℕ). then_feed i (feed_at feeds o)) led

    pub fed-nowhere : length feeds ≤ k → copy_lead feeds leads i y ≡ None
    fed-nowhere past = step ∙ ap (then_feed i) (past-all feeds k past)
      where
        past-all : (xs : List Feed) (j : ℕ) → length xs ≤ j → slice_get xs j ≡ None
        past-all [] j h = refl
        past-all (x ∷ xs) zero h = absurd (omega (arith, h))
        past-all (x ∷ xs) (suc j) h = past-all xs j (omega (arith, h))

    pub fed-by : (f : Feed) → k < length feeds → f ≡ get_or feeds k f → copy_lead feeds leads i y ≡ feed_lead (before i) i f
    fed-by f low here = step ∙ ap (then_feed i) (found feeds k low here)
      where
        found : (xs : List Feed) (j : ℕ) → j < length xs → f ≡ get_or xs j f → slice_get xs j ≡ Some f
        found [] j h e = absurd (omega (arith, h))
        found (x ∷ xs) zero h e = ap (λ (z : Feed). Some z) (sym e)
        found (x ∷ xs) (suc j) h e = found xs j (omega (arith, h)) e

  pub led-nowhere : (i y : ℕ) → slice_index_or leads y None ≡ None → copy_lead feeds leads i y ≡ None
  led-nowhere i y none = copy-step i y ∙ ap (λ (o : Option ℕ). then_feed i (feed_at feeds o)) none

  -- an iterated input, by the number of the copy
  pub first-copy : (i k y : ℕ) → i ≡ 0 → feed_lead (before i) i (Iterate k y) ≡ Some k
  first-copy zero k y none = refl
  first-copy (suc i) k y none = absurd (omega (arith, none))

  pub later-copy : (i j k y : ℕ) → i ≡ suc j → feed_lead (before i) i (Iterate k y) ≡ copy_lead feeds leads j y
  later-copy i j k y is =
      ap (λ (n : ℕ). feed_lead (before n) n (Iterate k y)) is
      ∙ ap (λ (b : Bool). cond b (Some k) (copy_lead feeds leads j y)) (ne_eqb (suc j) 0 (λ e. omega (arith, e)))

-- a level that is made vertex by vertex
module _ {P : Type 0} (f : P → List (Option ℕ)) where
  pub level-more : (wires : List (List Source)) (ps : List P) (n : ℕ) (s : List Source) (p : P) → n < length wires → n < length ps → s ≡ get_or wires n s → p ≡ get_or ps n p
      → level_of (drop n wires) (map f (drop n ps)) ≡ record { ins = s; leads = f p } ∷ level_of (drop (n + 1) wires) (map f (drop (n + 1) ps))
  level-more [] ps n s p low low' is is' = absurd (omega (arith, low))
  level-more (w ∷ wires) [] n s p low low' is is' = absurd (omega (arith, low'))
  level-more (w ∷ wires) (q ∷ ps) zero s p low low' is is' = ap₂ (λ (x : List Source) (y : P). record { ins = x; leads = f y } ∷ level_of wires (map f ps)) (sym is) (sym is')
  level-more (w ∷ wires) (q ∷ ps) (suc n) s p low low' is is' =
      let next : suc (n + 1) ≡ suc n + 1 = omega arith in
      level-more wires ps n s p (omega (arith, low)) (omega (arith, low')) is is'
      ∙ ap (λ (k : ℕ). record { ins = s; leads = f p } ∷ level_of (drop k (w ∷ wires)) (map f (drop k (q ∷ ps)))) next

  pub level-end : (wires : List (List Source)) (ps : List P) (n : ℕ) → n ≡ min (length wires) (length ps) → level_of (drop n wires) (map f (drop n ps)) ≡ []
  level-end [] ps n is = ended n
    where
      ended : (k : ℕ) → level_of (drop k []) (map f (drop k ps)) ≡ []
      ended zero = refl
      ended (suc k) = refl
  level-end (w ∷ wires) [] n is = let none : n ≡ 0 = omega (arith, is) in ap (λ (k : ℕ). level_of (drop k (w ∷ wires)) (map f (drop k []))) none
  level-end (w ∷ wires) (p ∷ ps) zero is = absurd (omega (arith, is))
  level-end (w ∷ wires) (p ∷ ps) (suc n) is = level-end wires ps n (omega (arith, is))
