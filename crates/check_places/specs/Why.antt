-- Why a program is not well formed: the first place that shows its first cause.
use Rattle.std.specs.Prelude.{ℕ, List, length, Option, Some, None}
use Rattle.sequence_build_laws.specs.declared.Vertex.{Vertex}
use Rattle.sequence_build_laws.specs.declared.Seq.{Seq}
use Rattle.sequence_build_laws.specs.declared.Program.{Program}
use Rattle.check_laws.specs.Items.{AreTransferred}
use Rattle.macro_check.specs.Awaiting.{MayRun}
use Rattle.macro_check.specs.Carrying.{AreLow}
use Rattle.check_laws.specs.Tests.{
  Cause,
  sequences_differ,
  calls_wrong,
  transfers_wrong,
  buffers_wrong,
  pairs_wrong,
  prologue_wrong,
  stuck_at,
  cause,
}
use Rattle.check_places.specs.declared.place.Place.{Place}
use Rattle.check_places.specs.declared.place.Why.{Why}
use Rattle.check_places.specs.declared.place.Why.TheVariants.{Breaks, Stuck}
use Rattle.check_places.specs.Calls.{calls_place}
use Rattle.check_places.specs.Transfers.{transfers_place}
use Rattle.check_places.specs.Buffers.{buffers_place}
use Rattle.check_places.specs.Pairs.{pairs_place, prologue_place}
use Rattle.check_places.specs.Names.{names_place}
use Rattle.check_places.specs.Waits.{waitings}

-- The place as the reason why a program is not well formed, and None if there is no place.
abbrev pub breaks : Option Place → Option Why
breaks None = None
breaks (Some x) = Some (Breaks x)

module _ (p : Program) (vertices : List Vertex) (media : ℕ) where
  -- of a cause that sequences and names are not
  abbrev pub by_tables : Cause → Option Why
  by_tables sequences_differ = None
  by_tables calls_wrong = breaks (calls_place p vertices)
  by_tables transfers_wrong = breaks (transfers_place p media)
  by_tables buffers_wrong = breaks (buffers_place p vertices media)
  by_tables pairs_wrong = breaks (pairs_place p)
  by_tables prologue_wrong = breaks (prologue_place p)
  by_tables (stuck_at places) = Some (Stuck (waitings p places))

-- what is right of the program where its first cause is this one, as far as the places of that cause rest on it
abbrev pub RightBefore : Program → ℕ → Cause → Type 0
RightBefore p media buffers_wrong = AreTransferred p media × AreLow p media
RightBefore p media (stuck_at places) = MayRun p media
RightBefore p media _ = Unit {0}

module _ (p : Program) (vertices : List Vertex) (seqs : List Seq) (operators media : ℕ) where
  -- What is found for a cause: the first place that shows it or, if the loops wait for each other,
  -- what each of them waits for. It is None if no place shows it.
  abbrev pub why_of : Cause → Option Why
  why_of sequences_differ = breaks (names_place p (length vertices) operators seqs)
  why_of calls_wrong = by_tables p vertices media calls_wrong
  why_of transfers_wrong = by_tables p vertices media transfers_wrong
  why_of buffers_wrong = by_tables p vertices media buffers_wrong
  why_of pairs_wrong = by_tables p vertices media pairs_wrong
  why_of prologue_wrong = by_tables p vertices media prologue_wrong
  why_of (stuck_at places) = by_tables p vertices media (stuck_at places)

  -- Why a program with this cause is refused; none if there is no cause.
  abbrev pub why_by : Option Cause → Option Why
  why_by None = None
  why_by (Some c) = why_of c

  -- none where there is no cause
  abbrev pub why : Option Why
  why = why_by (cause p vertices seqs operators media)
