-- The laws of the check of a program: whether there is a serial order.
use Rattle.std.specs.Prelude.{◌≡◌, ◌↔◌, ℕ, IsTrue, List, [], length, Some, None, slice_get}
use Rattle.sequence_build_laws.specs.declared.Vertex.{Vertex}
use Rattle.sequence_build_laws.specs.Graph.{Graph}
use Rattle.sequence_build_laws.specs.Archi.{Architecture, is_archi}
use Rattle.sequence_build_laws.specs.declared.Seq.{Seq}
use Rattle.sequence_build_laws.specs.Sequences.{sequences}
use Rattle.sequence_build_laws.specs.declared.Program.{Program}
use Rattle.sequence_build_laws.specs.WellFormed.{IsOrder, IsWellFormed}
use Rattle.sequence_build_laws.specs.Places.{AreOpened}
use Rattle.check_laws.specs.Items.{AreNamed, IsCalledOnce, AreTransferred, AreWritten, AreGuarded, HasItems}
use Rattle.check_laws.specs.Run.{next, run, left_from, stuck, IsRun}
use Rattle.check_laws.specs.Tests.{
  Cause,
  sequences_differ,
  calls_wrong,
  transfers_wrong,
  buffers_wrong,
  pairs_wrong,
  prologue_wrong,
  stuck_at,
  cause,
}

-- a run by any choice in which every sequence comes to its end is a serial order
abbrev pub RunsAreOrders : Type 0
RunsAreOrders = (p : Program) (g : Graph) (seqs : List Seq) (operators media : ℕ) (order : List ℕ) →
    HasItems p g seqs operators media → IsRun p order → left_from p order 0 (length p.seqs) ≡ [] →
    IsOrder p g seqs media order

-- where every sequence comes to its end, the run that takes the lowest is a serial order
abbrev pub RunIsOrder : Type 0
RunIsOrder = (p : Program) (g : Graph) (seqs : List Seq) (operators media : ℕ) →
    HasItems p g seqs operators media → stuck p ≡ [] → IsOrder p g seqs media (run p)

-- where there is a serial order, every sequence comes to its end
abbrev pub OrderIsFound : Type 0
OrderIsFound = (p : Program) (g : Graph) (seqs : List Seq) (media : ℕ) → IsWellFormed p g seqs media → stuck p ≡ []

-- where a run stops does not depend on which ready sequence it takes
abbrev pub RunsStopAlike : Type 0
RunsStopAlike =
    (p : Program) (order : List ℕ) → IsRun p order → next p order ≡ None → left_from p order 0 (length p.seqs) ≡ stuck p

-- a well-formed program has all that is asked whatever the order
abbrev pub WellFormedHasItems : Type 0
WellFormedHasItems = (p : Program) (g : Graph) (a : Architecture) → IsTrue (is_archi a.operators a.media) →
    IsWellFormed p g (sequences a) (length a.media) → HasItems p g (sequences a) (length a.operators) (length a.media)

-- What each cause says: what is asked before it is there, and it is not; or all is there, there is no serial order,
-- and the run stops at these places.
module _ (p : Program) (g : Graph) (seqs : List Seq) (operators media : ℕ) where
  -- The sequences are those of the architecture, and what any instruction names is one
  -- of the program, the flat graph or the architecture.
  abbrev pub Named : Type 0
  Named = AreNamed p (length g.vertices) operators seqs

  -- Each operation of the flat graph is called once, in a computation sequence, and
  -- the get half of a delay before its set half.
  abbrev pub Called : Type 0
  Called = (v : ℕ) (x : Vertex) → slice_get g.vertices v ≡ Some x → IsCalledOnce p v x

  -- All conditions before this cause hold and its own does not; a run that is stuck is the cause if
  -- all conditions hold, there is no serial order, and the run stops at these places.
  abbrev pub IsCause : Cause → Type 0
  IsCause sequences_differ = Named → ⊥
  IsCause calls_wrong = Named × (Called → ⊥)
  IsCause transfers_wrong = Named × Called × (AreTransferred p media → ⊥)
  IsCause buffers_wrong = Named × Called × AreTransferred p media × (AreWritten p g media → ⊥)
  IsCause pairs_wrong = Named × Called × AreTransferred p media × AreWritten p g media × (AreGuarded p → ⊥)
  IsCause prologue_wrong =
      Named × Called × AreTransferred p media × AreWritten p g media × AreGuarded p × (AreOpened p → ⊥)
  IsCause (stuck_at places) = HasItems p g seqs operators media × (IsWellFormed p g seqs media → ⊥) × (places ≡ stuck p)

-- the first cause of a program is exact
abbrev pub CauseIsExact : Type 0
CauseIsExact = (p : Program) (g : Graph) (seqs : List Seq) (operators media : ℕ) (c : Cause) →
    cause p g.vertices seqs operators media ≡ Some c → IsCause p g seqs operators media c

-- there is no cause exactly where the program is well formed
abbrev pub NoCauseIsWellFormed : Type 0
NoCauseIsWellFormed = (p : Program) (g : Graph) (a : Architecture) → IsTrue (is_archi a.operators a.media)
    → (cause p g.vertices (sequences a) (length a.operators) (length a.media) ≡ None) ↔
    IsWellFormed p g (sequences a) (length a.media)
