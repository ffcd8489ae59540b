-- How the source that a buffer carries is found, and the test that transfers keep it.
use Rattle.std.specs.Prelude.{ℕ, Bool, Option, Some, None, slice_get}
use Rattle.executive_program.specs.declared.Source.{Source}
use Rattle.executive_program.specs.Graph.{same_source}
use Rattle.executive_program.specs.declared.program.Instr.{Instr}
use Rattle.executive_program.specs.declared.program.Instr.TheVariants.{Call, Recv, Send}
use Rattle.executive_program.specs.declared.program.Program.{Program}
use Rattle.executive_program.specs.Instructions.{communications, medium, turn}
use Rattle.executive_program.specs.MicroSteps.{sent, transfers}
use Rattle.executive_program.specs.Places.{carried, no_source, output_at, writer_of, written_at}
use Rattle.order_check.specs.declared.carrying.Origin.{Origin}
use Rattle.order_check.specs.declared.carrying.Origin.TheVariants.{Made, Received, Nowhere}
use Rattle.program_walks.specs.Walks.{all_below}
use Rattle.order_check.specs.Transfers.{buffer_at, receiver_of, sender_of}

-- the buffer that an instruction sends
abbrev pub sent_by_one : Instr → Option ℕ
sent_by_one (Send b q) = Some b
sent_by_one _ = None

-- A received value comes from the buffer that is sent, and from nowhere if none is sent.
abbrev pub received : Option ℕ → Origin
received None = Nowhere
received (Some b) = Received b

module _ (p : Program) where
  -- the buffer that communication t of a medium sends
  abbrev pub sent_on : Option ℕ → ℕ → Option ℕ
  sent_on None t = None
  sent_on (Some m) t = sent p m t

  -- where what instruction a of s writes comes from, where it is written as output `port`
  abbrev pub origin_of : ℕ → ℕ → ℕ → Option Instr → Origin
  origin_of s a port (Some (Call v ins outs)) = Made v port
  origin_of s a port (Some (Recv b o)) = received (sent_on (medium p s) (communications p s a))
  origin_of s a port _ = Nowhere

  -- As instruction a of s writes it, the value of buffer b comes from there; it comes
  -- from nowhere if the instruction is neither a call nor a receive.
  abbrev pub origin_at : ℕ → ℕ → ℕ → Origin
  origin_at b s a = origin_of s a (output_at b (slice_get (turn p s) a)) (slice_get (turn p s) a)

  -- The value of buffer b comes from there, by the first instruction that writes it;
  -- it comes from nowhere if none does.
  abbrev pub origin : ℕ → Origin
  origin b = origin_at b (writer_of p b) (written_at p b)

  -- the source that comes from there, where `inner` are the sources of buffers
  abbrev pub source_from : (ℕ → Source) → Origin → Source
  source_from inner (Made v port) = record { vertex = v; port = port }
  source_from inner (Received b) = inner b
  source_from inner Nowhere = no_source p

  -- the received buffer carries what the sent one does
  abbrev pub is_kept : ℕ → ℕ → Bool
  is_kept m t =
      same_source (carried p (buffer_at p (receiver_of p m t) t)) (carried p (buffer_at p (sender_of p m t) t))

  -- In each transfer of this many media the received buffer carries the same source as
  -- the sent one.
  abbrev pub are_kept : ℕ → Bool
  are_kept media = all_below (λ m. all_below (λ t. is_kept m t) (transfers p m)) media
