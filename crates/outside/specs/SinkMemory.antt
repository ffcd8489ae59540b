-- A sink in memory, and what a call does to it.
use Rattle.std.specs.Prelude.{◌==◌, ◌||◌, ℕ, ◌-◌, nat_le, min, List, ◌++◌, length, take, Some, Bool}
use Rattle.std.specs.List.{list_any}
use Rattle.syn_base.specs.Bytes.{Bytes}
use Rattle.outside.specs.Faults.{raised}
use Rattle.outside.specs.Sink.{Sunk}

-- What was written, the most that may be held, the calls that are to fail, the most that one call
-- takes, and the faults and calls so far.
pub record Memory : Type 0 where
  pub bytes : Bytes
  pub room : ℕ
  pub failing : List ℕ
  pub most : ℕ
  pub faults : ℕ
  pub calls : ℕ

-- A sink in memory tells what was written.
abbrev pub memory_sunk : Memory → Sunk
memory_sunk sink = record { told = Some sink.bytes; faults = sink.faults }

-- The next call fails: no room is left, or it is to fail.
abbrev pub put_fails : Memory → Bool
put_fails sink = nat_le sink.room (length sink.bytes) || list_any (λ call. call == sink.calls) sink.failing

-- How many bytes of a piece the next call takes.
abbrev pub put_takes : Memory → Bytes → ℕ
put_takes sink piece = min (min (length piece) sink.most) (sink.room - length sink.bytes)

-- The sink after a call that took the first n bytes of a piece.
abbrev pub after_put : Memory → Bytes → ℕ → Memory
after_put sink piece n = record sink { bytes = sink.bytes ++ take n piece; calls = raised sink.calls }

-- The sink after a call that failed.
abbrev pub after_fault : Memory → Memory
after_fault sink = record sink { faults = raised sink.faults; calls = raised sink.calls }
