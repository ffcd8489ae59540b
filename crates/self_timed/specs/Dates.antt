-- When each act of a schedule starts and ends in each reaction, where it waits for nothing but what must precede it:
-- for given durations, act by act and reaction by reaction.
use Rattle.std.specs.Prelude.{
  ◌≡◌,
  ℕ,
  zero,
  suc,
  ◌+◌,
  ◌-◌,
  ◌*◌,
  Bool,
  ◌&&◌,
  not,
  cond,
  nat_le,
  List,
  [],
  ◌∷◌,
  ◌++◌,
  map,
  length,
  take,
  Option,
  Some,
  None,
  slice_get,
}
use Rattle.sequence_build_laws.specs.declared.Vertex.{Vertex}
use Rattle.sequence_build_laws.specs.Acts.{Act}
use Rattle.sequence_build_laws.specs.Tight.{same_line, reads_from}
use Rattle.sequence_build_laws.specs.MicroSteps.{first_of}
use Rattle.sequence_build_laws.specs.Serial.{numbers_where}
use Rattle.syn_base.specs.Numbers.{greatest}

-- an act, by number, in a reaction
pub record Event : Type 0 where
  pub reaction : ℕ
  pub act : ℕ

-- Act i in reaction k, both counted from 0.
abbrev pub event : ℕ → ℕ → Event
event k i = record { reaction = k; act = i }

-- the number of the last element that passes, of which the first has number n
abbrev pub last_where : {A : Type 0} → (A → Bool) → ℕ → List A → Option ℕ
last_where test n [] = None
last_where test n (x ∷ xs) = first_of (last_where test (suc n) xs) (cond (test x) (Some n) None)

-- of the act that is there
abbrev pub with_act : Option Act → (Act → ℕ) → ℕ
with_act None f = 0
with_act (Some x) f = f x

-- The act in reaction k as the only event if there is one, and no event otherwise.
abbrev pub one_of : ℕ → Option ℕ → List Event
one_of k None = []
one_of k (Some i) = event k i ∷ []

-- the first of these acts in reaction k, or else the second one in the reaction before
abbrev pub latest_of : ℕ → Option ℕ → Option ℕ → List Event
latest_of k (Some i) o = event k i ∷ []
latest_of zero None o = []
latest_of (suc k) None o = one_of k o

-- These acts as events of the reaction that is d before reaction k, if there is one.
abbrev pub ago : ℕ → ℕ → List ℕ → List Event
ago d k numbers = cond (nat_le d k) (map (event (k - d)) numbers) []

module _ (xs : List Act) where
  -- the act before act i, which is x, on its operator or medium: the last one of the reaction before, where it is
  -- the first
  abbrev pub in_line : ℕ → ℕ → Act → List Event
  in_line k i x = latest_of k (last_where (same_line x) 0 (take i xs)) (last_where (same_line x) 0 xs)

module _ (vertices : List Vertex) where
  -- y reads in another sequence what x makes
  abbrev pub has_reader : Act → Act → Bool
  has_reader x y = not (same_line x y) && reads_from vertices y x

  -- the acts before act i, which is x, that make what it reads
  abbrev pub brought : List Act → ℕ → ℕ → Act → List Event
  brought xs k i x = map (event k) (numbers_where (reads_from vertices x) 0 (take i xs))

-- Buffers that another sequence reads have this depth.
module _ (depth : ℕ) (vertices : List Vertex) (xs : List Act) where
  -- the acts in other sequences that read what x makes, as many reactions before as the buffer has places
  abbrev pub emptied : ℕ → Act → List Event
  emptied k x = ago depth k (numbers_where (has_reader vertices x) 0 xs)

  -- all that must precede act i, which is x, in reaction k
  abbrev pub needs : ℕ → ℕ → Act → List Event
  needs k i x = in_line xs k i x ++ (brought vertices xs k i x ++ emptied k x)

  -- when it starts: at the greatest end of all that must precede it, or at 0
  abbrev pub start_by : (ℕ → ℕ → ℕ) → ℕ → ℕ → Act → ℕ
  start_by ends k i x = greatest (map (λ e. ends e.reaction e.act) (needs k i x))

  module _ (lasts : ℕ → ℕ → ℕ) where
    -- Act i of reaction k lasts `lasts k i` and ends at `ends k i`.
    abbrev pub AreDates : (ℕ → ℕ → ℕ) → Type 0
    AreDates ends = (k i : ℕ) (x : Act) → slice_get xs i ≡ Some x → ends k i ≡ start_by ends k i x + lasts k i

    -- The end of act i in reaction k, if what must precede an act is followed back for at most this
    -- many steps. It is 0 if there is no act i, or no step.
    abbrev pub ends_within : ℕ → ℕ → ℕ → ℕ
    ends_within zero k i = 0
    ends_within (suc fuel) k i =
        with_act (slice_get xs i) (λ x. start_by (λ j h. ends_within fuel j h) k i x + lasts k i)

    -- the one solution: what must precede act i of reaction k has a lower rank
    abbrev pub dates : ℕ → ℕ → ℕ
    dates k i = ends_within (suc (k * length xs + i)) k i
