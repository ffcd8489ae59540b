-- Pairs of semaphores round buffers of any depth.
use Rattle.std.specs.Prelude.{◌≡◌, ℕ, ◌<◌, ◌≤◌, ◌⊎◌, Some, slice_get}
use Rattle.interleavings.specs.System.{System, take, see, is_take, is_signal}
use Rattle.interleavings.specs.Owners.{Owner, IsOwned}

-- This owner passes its test at place a of the turn of s, so once in each reaction,
-- and never in the prologue.
abbrev pub late : ℕ → ℕ → Owner
late s a = record { sequence = s; site = record { first = 0; early = 0; place = a } }

-- A pair of semaphores round a buffer of `depth` places: the empty and the full one, the writing and the
-- reading sequence, and where in the turns of these each semaphore is asked for, taken and signalled.
-- The reader signals the empty semaphore in its prologue too, from place `front` on.
pub record Pair : Type 0 where
  pub empty : ℕ
  pub full : ℕ
  pub depth : ℕ
  pub writer : ℕ
  pub ask_empty : ℕ
  pub take_empty : ℕ
  pub signal_full : ℕ
  pub reader : ℕ
  pub ask_full : ℕ
  pub take_full : ℕ
  pub signal_empty : ℕ
  pub front : ℕ

module _ {P : Type 0} (w : System P) (signaller : ℕ → Owner) where
  -- Semaphore x: it is asked for at place `asks` and taken at place `takes` of the
  -- taker's turn. At depth 1 both are the take, and else a see and a sub.
  pub record IsSemaphore (x taker asks takes : ℕ) : Type 0 where
    pub taken : IsOwned w (is_take x) (late taker takes)
    pub signalled : IsOwned w (is_signal x) (signaller x)
    pub before : asks ≤ takes
    pub asked : (slice_get (w.codes taker).turn asks ≡ Some (take x)) ⊎
        (slice_get (w.codes taker).turn asks ≡ Some (see x))

  -- The reader signals the empty semaphore once for each place of the buffer before its loop, and in its
  -- loop after the take of the full one. The writer takes the empty and then signals the full one.
  pub record IsPair (q : Pair) : Type 0 where
    pub empty_is : IsSemaphore q.empty q.writer q.ask_empty q.take_empty
    pub full_is : IsSemaphore q.full q.reader q.ask_full q.take_full
    pub empty_by : signaller q.empty ≡
        record { sequence = q.reader; site = record { first = q.front; early = q.depth; place = q.signal_empty } }
    pub full_by : signaller q.full ≡ late q.writer q.signal_full
    pub in_writer : q.take_empty < q.signal_full
    pub in_reader : q.take_full < q.signal_empty
