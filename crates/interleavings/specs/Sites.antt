-- A sequence: a prologue that is done once, and a turn that is done
-- once in each reaction. How often its first n steps passed a test.
use Rattle.std.specs.Prelude.{
  ◌≡◌,
  ℕ,
  zero,
  suc,
  ◌+◌,
  ◌-◌,
  ◌*◌,
  ◌/◌,
  ◌%◌,
  ◌<◌,
  ◌≤◌,
  Bool,
  cond,
  nat_lt,
  List,
  length,
  Option,
  Some,
  None,
  slice_get,
}

-- The code of a sequence is a prologue, which is made once, and a turn, which is made
-- in each reaction.
pub record Code (A : Type 0) : Type 0 where
  pub prologue : List A
  pub turn : List A

-- where a test holds: at `early` places of the prologue in succession, from `first` on, and at one place of the turn
pub record Site : Type 0 where
  pub first : ℕ
  pub early : ℕ
  pub place : ℕ

module _ {A : Type 0} where
  -- the number of the reaction in which step n stands, and its place in the turn
  abbrev pub reaction_at : Code A → ℕ → ℕ
  reaction_at c n = (n - length c.prologue) / length c.turn

  -- Step n, counted from 0 with the steps of the prologue, has this place in the turn;
  -- for a step of the prologue it is 0.
  abbrev pub place_at : Code A → ℕ → ℕ
  place_at c n = (n - length c.prologue) % length c.turn

  -- the step that is made when n were made before
  abbrev pub step_at : Code A → ℕ → Option A
  step_at c n = cond (nat_lt n (length c.prologue)) (slice_get c.prologue n) (slice_get c.turn (place_at c n))

  -- 1 where the step passes the test p, and else 0
  abbrev pub hit : (A → Bool) → Option A → ℕ
  hit p None = 0
  hit p (Some a) = cond (p a) 1 0

  -- how many of the first n steps pass the test p
  abbrev pub passes : (A → Bool) → Code A → ℕ → ℕ
  passes p c zero = 0
  passes p c (suc n) = passes p c n + hit p (step_at c n)

  -- the step at place a of the turn in reaction j
  abbrev pub number_of : Code A → ℕ → ℕ → ℕ
  number_of c j a = length c.prologue + (j * length c.turn + a)

  -- the step at which the test holds for the j-th time, from 0
  abbrev pub nth : Code A → Site → ℕ → ℕ
  nth c x j = cond (nat_lt j x.early) (x.first + j) (number_of c (j - x.early) x.place)

  -- the test p holds at the site x of c, and nowhere else
  pub record IsSite (p : A → Bool) (c : Code A) (x : Site) : Type 0 where
    pub within : x.place < length c.turn
    pub here : hit p (slice_get c.turn x.place) ≡ 1
    pub only : (i : ℕ) → (i ≡ x.place → ⊥) → hit p (slice_get c.turn i) ≡ 0
    pub within_early : x.first + x.early ≤ length c.prologue
    pub here_early : (i : ℕ) → x.first ≤ i → i < x.first + x.early → hit p (slice_get c.prologue i) ≡ 1
    pub before_early : (i : ℕ) → i < x.first → hit p (slice_get c.prologue i) ≡ 0
    pub after_early : (i : ℕ) → x.first + x.early ≤ i → hit p (slice_get c.prologue i) ≡ 0
