-- What a place shows: what is wrong of its subject and of its instruction, and that it is the
-- first.
use Rattle.std.specs.Prelude.{
  ◌≡◌,
  ◌↔◌,
  ℕ,
  ◌<◌,
  ◌≤◌,
  IsTrue,
  List,
  map,
  length,
  Option,
  Some,
  None,
  slice_get,
}
use Rattle.sequence_build_laws.specs.declared.Vertex.{Vertex}
use Rattle.sequence_build_laws.specs.Graph.{Graph}
use Rattle.sequence_build_laws.specs.Archi.{Architecture, is_archi}
use Rattle.sequence_build_laws.specs.Sequences.{sequences}
use Rattle.sequence_build_laws.specs.declared.Seq.{Seq}
use Rattle.sequence_build_laws.specs.declared.Program.{Program}
use Rattle.sequence_build_laws.specs.Instructions.{Reader, len_of, medium, readers}
use Rattle.sequence_build_laws.specs.MicroSteps.{transfers}
use Rattle.sequence_build_laws.specs.Places.{transfer}
use Rattle.sequence_build_laws.specs.WellFormed.{IsWellFormed}
use Rattle.check_laws.specs.Items.{IsTransferred, IsWrittenOnce}
use Rattle.check_laws.specs.Run.{made, run, stuck}
use Rattle.check_laws.specs.Tests.{
  Cause,
  sequences_differ,
  calls_wrong,
  transfers_wrong,
  buffers_wrong,
  pairs_wrong,
  prologue_wrong,
  stuck_at,
  cause,
}
use Rattle.check_places.specs.declared.place.Part.TheVariants.{Loop, Prologue}
use Rattle.check_places.specs.declared.place.Place.{Place}
use Rattle.check_places.specs.declared.place.Rule.{Rule}
use Rattle.check_places.specs.declared.place.Rule.TheVariants as rule
use Rattle.check_places.specs.declared.place.Spot.{Spot}
use Rattle.check_places.specs.declared.place.Subject.{Subject}
use Rattle.check_places.specs.declared.place.Subject.TheVariants.{
  Expected,
  Sequence,
  Operation,
  Input,
  Output,
  Buffer,
  Pair,
  Transfer,
}
use Rattle.check_places.specs.declared.place.Waiting.{Waiting}
use Rattle.check_places.specs.declared.place.Why.{Why}
use Rattle.check_places.specs.declared.place.Why.TheVariants.{Breaks, Stuck}
use Rattle.check_places.specs.Ahead.{
  AreCalledBefore,
  AreNear,
  AreNamedAhead,
  AreReadAfter,
  AreRight,
  AreSameBefore,
  CarryBelow,
  FitBefore,
  GiveBelow,
  HasAllInputs,
  HasAllOutputs,
  HasOneWrite,
  HoldsBelow,
  HoldsEarlier,
  IsAlone,
  IsAtMedium,
  IsAttached,
  IsAwaitedBefore,
  IsCounted,
  IsDeclared,
  IsEmptyTaken,
  IsFirstFar,
  IsFirstRead,
  IsFullTaken,
  IsOpened,
  IsPaired,
  IsReceived,
  IsReceivedThere,
  IsRight,
  IsSecond,
  IsSent,
  IsSentThere,
  IsWrittenBetween,
  Keeps,
  Takes,
}
use Rattle.check_places.specs.Why.{why}
use Rattle.check_places.specs.Wrong.{
  Calls,
  HasOtherInput,
  HasOtherOutput,
  HasOtherValue,
  HasUnequalInputs,
  HasUnequalLengths,
  HasUnequalOutputs,
  HasWrongPlaces,
  IsAtNoMedium,
  IsCalledAgain,
  IsCalledInThread,
  IsEmptyNotSignalled,
  IsEmptyNotTaken,
  IsFullNotSignalled,
  IsFullNotTaken,
  IsFurtherLine,
  IsFurtherPair,
  IsMiscounted,
  IsMissingPair,
  IsMissingSignal,
  IsNotAwaited,
  IsNotBeforeSet,
  IsNotCalled,
  IsNotMade,
  IsNotReceived,
  IsNotSent,
  IsNotWritten,
  IsOther,
  IsOutsideThread,
  IsPairElsewhere,
  IsReadTooEarly,
  IsReceivedElsewhere,
  IsSentElsewhere,
  IsTouchedElsewhere,
  IsWrittenAgain,
  NamesMore,
  Writes,
}

-- The cause that a rule belongs to.
abbrev pub cause_of : Rule → Cause
cause_of rule.OtherSequence = sequences_differ
cause_of rule.MissingName = sequences_differ
cause_of rule.NotCalled = calls_wrong
cause_of rule.CalledAgain = calls_wrong
cause_of rule.CalledInThread = calls_wrong
cause_of rule.GetNotBeforeSet = calls_wrong
cause_of rule.OutsideThread = transfers_wrong
cause_of rule.UnknownMedium = transfers_wrong
cause_of rule.UnequalTransfers = transfers_wrong
cause_of rule.NotSent = transfers_wrong
cause_of rule.NotReceived = transfers_wrong
cause_of rule.SentElsewhere = transfers_wrong
cause_of rule.ReceivedElsewhere = transfers_wrong
cause_of rule.NotAwaited = transfers_wrong
cause_of rule.NotWritten = buffers_wrong
cause_of rule.WrittenAgain = buffers_wrong
cause_of rule.TouchedElsewhere = buffers_wrong
cause_of rule.ReadTooEarly = buffers_wrong
cause_of rule.WrongPlaces = buffers_wrong
cause_of rule.NotMade = buffers_wrong
cause_of rule.UnequalInputs = buffers_wrong
cause_of rule.OtherInput = buffers_wrong
cause_of rule.UnequalOutputs = buffers_wrong
cause_of rule.OtherOutput = buffers_wrong
cause_of rule.UnequalLengths = buffers_wrong
cause_of rule.OtherValue = buffers_wrong
cause_of rule.MissingPair = pairs_wrong
cause_of rule.PairElsewhere = pairs_wrong
cause_of rule.EmptyNotTaken = pairs_wrong
cause_of rule.FullNotSignalled = pairs_wrong
cause_of rule.FullNotTaken = pairs_wrong
cause_of rule.EmptyNotSignalled = pairs_wrong
cause_of rule.FurtherPair = pairs_wrong
cause_of rule.MissingSignal = prologue_wrong
cause_of rule.FurtherLine = prologue_wrong

-- The place is an instruction of a loop, of which this holds.
abbrev pub IsInLoop : Option Spot → (ℕ → ℕ → Type 0) → Type 0
IsInLoop None Holds = ⊥
IsInLoop (Some y) Holds = (y.part ≡ Loop) × Holds y.sequence y.at

-- The place is an instruction of a prologue or the end of one, of which this holds.
abbrev pub IsInPrologue : Option Spot → (ℕ → ℕ → Type 0) → Type 0
IsInPrologue None Holds = ⊥
IsInPrologue (Some y) Holds = (y.part ≡ Prologue) × Holds y.sequence y.at

module _ (p : Program) (g : Graph) (seqs : List Seq) (operators media : ℕ) where
  -- This holds of operation v.
  abbrev pub OfOperation : ℕ → (Vertex → Type 0) → Type 0
  OfOperation v Holds = (x : Vertex) × (slice_get g.vertices v ≡ Some x) × Holds x

  -- There is a transfer t on medium m, of which this holds.
  abbrev pub OfTransfer : ℕ → ℕ → Type 0 → Type 0
  OfTransfer m t Holds = (m < media) × (t < transfers p m) × Holds

  -- There is a buffer b, of which this holds.
  abbrev pub OfBuffer : ℕ → Type 0 → Type 0
  OfBuffer b Holds = (b < length p.buffers) × Holds

  -- This holds of the buffer and the sequence for which pair q is needed.
  abbrev pub OfReader : ℕ → (Reader → Type 0) → Type 0
  OfReader q Holds = (r : Reader) × (slice_get (readers p) q ≡ Some r) × Holds r

  -- What is wrong of a subject where a rule is broken, and what its instruction is, if one shows
  -- it.
  abbrev pub ShowsBy : Rule → Subject → Option Spot → Type 0
  ShowsBy rule.OtherSequence (Expected s) None = IsOther p seqs s
  ShowsBy rule.MissingName (Sequence s) (Some y) =
      (y.sequence ≡ s) × NamesMore p (length g.vertices) operators y.part y.sequence y.at
  ShowsBy rule.NotCalled (Operation v) None = OfOperation v (λ x. IsNotCalled p v)
  ShowsBy rule.CalledAgain (Operation v) y = OfOperation v (λ x. IsInLoop y (IsCalledAgain p v))
  ShowsBy rule.CalledInThread (Operation v) y = OfOperation v (λ x. IsInLoop y (IsCalledInThread p v))
  ShowsBy rule.GetNotBeforeSet (Operation v) y = OfOperation v (λ x. IsInLoop y (IsNotBeforeSet p v x))
  ShowsBy rule.OutsideThread (Sequence s) y = IsInLoop y (λ t a. (t ≡ s) × IsOutsideThread p t a)
  ShowsBy rule.UnknownMedium (Sequence s) None = IsAtNoMedium p media s
  ShowsBy rule.UnequalTransfers (Sequence s) None = IsMiscounted p s
  ShowsBy rule.NotSent (Transfer m t) None = OfTransfer m t (IsNotSent p m t)
  ShowsBy rule.NotReceived (Transfer m t) None = OfTransfer m t (IsNotReceived p m t)
  ShowsBy rule.SentElsewhere (Transfer m t) y = OfTransfer m t (IsInLoop y (IsSentElsewhere p m t))
  ShowsBy rule.ReceivedElsewhere (Transfer m t) y = OfTransfer m t (IsInLoop y (IsReceivedElsewhere p m t))
  ShowsBy rule.NotAwaited (Transfer m t) y = OfTransfer m t (IsInLoop y (IsNotAwaited p m t))
  ShowsBy rule.NotWritten (Buffer b) None = OfBuffer b (IsNotWritten p b)
  ShowsBy rule.WrittenAgain (Buffer b) y = OfBuffer b (IsInLoop y (IsWrittenAgain p b))
  ShowsBy rule.TouchedElsewhere (Buffer b) y = OfBuffer b (IsInLoop y (IsTouchedElsewhere p b))
  ShowsBy rule.ReadTooEarly (Buffer b) y = OfBuffer b (IsInLoop y (IsReadTooEarly p b))
  ShowsBy rule.WrongPlaces (Buffer b) y = OfBuffer b (IsInLoop y (HasWrongPlaces p b))
  ShowsBy rule.NotMade (Buffer b) y = OfBuffer b (IsInLoop y (IsNotMade p b))
  ShowsBy rule.UnequalInputs (Operation v) y = OfOperation v (λ x. IsInLoop y (HasUnequalInputs p v x))
  ShowsBy rule.OtherInput (Input v k) y = OfOperation v (λ x. IsInLoop y (HasOtherInput p g v k x))
  ShowsBy rule.UnequalOutputs (Operation v) y = OfOperation v (λ x. IsInLoop y (HasUnequalOutputs p v x))
  ShowsBy rule.OtherOutput (Output v k) y = OfOperation v (λ x. IsInLoop y (HasOtherOutput p v k x))
  ShowsBy rule.UnequalLengths (Transfer m t) y = OfTransfer m t (IsInLoop y (HasUnequalLengths p m t))
  ShowsBy rule.OtherValue (Transfer m t) y = OfTransfer m t (IsInLoop y (HasOtherValue p m t))
  ShowsBy rule.MissingPair (Pair q) y = OfReader q (λ r. IsInLoop y (IsMissingPair p q r))
  ShowsBy rule.PairElsewhere (Pair q) y = OfReader q (λ r. IsInLoop y (IsPairElsewhere p q r))
  ShowsBy rule.EmptyNotTaken (Pair q) y = OfReader q (λ r. IsInLoop y (IsEmptyNotTaken p q r))
  ShowsBy rule.FullNotSignalled (Pair q) y = OfReader q (λ r. IsInLoop y (IsFullNotSignalled p q r))
  ShowsBy rule.FullNotTaken (Pair q) y = OfReader q (λ r. IsInLoop y (IsFullNotTaken p q r))
  ShowsBy rule.EmptyNotSignalled (Pair q) y = OfReader q (λ r. IsInLoop y (IsEmptyNotSignalled p q r))
  ShowsBy rule.FurtherPair (Pair q) None = IsFurtherPair p q
  ShowsBy rule.MissingSignal (Pair q) y = IsInPrologue y (λ s a. (s < length p.seqs) × IsMissingSignal p q s a)
  ShowsBy rule.FurtherLine (Sequence s) y = IsInPrologue y (λ t a. (t ≡ s) × IsFurtherLine p t a)
  ShowsBy _ _ _ = ⊥

  -- What is right before single transfers before transfer t of medium m are looked at, and of these.
  abbrev pub AreMovedBefore : ℕ → ℕ → Type 0
  AreMovedBefore m t =
      ((s : ℕ) → IsAttached p s) × ((s : ℕ) → IsAtMedium p media s) × ((s : ℕ) → IsCounted p s) ×
      HoldsEarlier p (IsTransferred p) m t

  -- All buffers are right, all operations fit, and each transfer before transfer t of medium m keeps
  -- length and value.
  abbrev pub AreKeptBefore : ℕ → ℕ → Type 0
  AreKeptBefore m t = AreRight p × FitBefore p g (length g.vertices) × HoldsEarlier p (Keeps p) m t

  -- What is right of all that is looked at before the place. Its cause looks at one kind of subject
  -- after the other, at those of a kind by number, and at those of one subject in the order of the
  -- rules. Transfers come by medium and then by number, and names in all loops before those in all
  -- prologues, by sequence and then by instruction.
  abbrev pub IsFirstBy : Rule → Subject → Option Spot → Type 0
  IsFirstBy rule.OtherSequence (Expected s) y = AreSameBefore p seqs s
  IsFirstBy rule.MissingName (Sequence s) (Some y) =
      (map (λ q. q.seq) p.seqs ≡ seqs) × AreNamedAhead p (length g.vertices) operators y.part y.sequence y.at
  IsFirstBy rule.NotCalled (Operation v) y = AreCalledBefore p g v
  IsFirstBy rule.CalledAgain (Operation v) y = AreCalledBefore p g v × IsInLoop y (IsSecond (Calls p v))
  IsFirstBy rule.CalledInThread (Operation v) y = AreCalledBefore p g v × IsInLoop y (IsAlone (Calls p v))
  IsFirstBy rule.GetNotBeforeSet (Operation v) y =
      AreCalledBefore p g v × IsInLoop y (λ s a. IsAlone (Calls p v) s a × (medium p s ≡ None))
  IsFirstBy rule.OutsideThread (Sequence s) y = HoldsBelow (IsAttached p) s
  IsFirstBy rule.UnknownMedium (Sequence s) y = ((t : ℕ) → IsAttached p t) × HoldsBelow (IsAtMedium p media) s
  IsFirstBy rule.UnequalTransfers (Sequence s) y =
      ((t : ℕ) → IsAttached p t) × ((t : ℕ) → IsAtMedium p media t) × HoldsBelow (IsCounted p) s
  IsFirstBy rule.NotSent (Transfer m t) y = AreMovedBefore m t
  IsFirstBy rule.NotReceived (Transfer m t) y = AreMovedBefore m t × IsSent p m t
  IsFirstBy rule.SentElsewhere (Transfer m t) y = AreMovedBefore m t × IsReceived p m t
  IsFirstBy rule.ReceivedElsewhere (Transfer m t) y = AreMovedBefore m t × IsSentThere p m t
  IsFirstBy rule.NotAwaited (Transfer m t) y =
      AreMovedBefore m t × IsSentThere p m t × IsReceivedThere p m t × IsInLoop y (λ s a. IsAwaitedBefore p m t s)
  IsFirstBy rule.NotWritten (Buffer b) y = HoldsBelow (IsRight p) b
  IsFirstBy rule.WrittenAgain (Buffer b) y = HoldsBelow (IsRight p) b × IsInLoop y (IsSecond (Writes p b))
  IsFirstBy rule.TouchedElsewhere (Buffer b) y =
      HoldsBelow (IsRight p) b × HasOneWrite p b × IsInLoop y (IsFirstFar p b)
  IsFirstBy rule.ReadTooEarly (Buffer b) y =
      HoldsBelow (IsRight p) b × HasOneWrite p b × AreNear p b × IsInLoop y (IsFirstRead p b)
  IsFirstBy rule.WrongPlaces (Buffer b) y =
      HoldsBelow (IsRight p) b × HasOneWrite p b × AreNear p b × IsInLoop y (AreReadAfter p b)
  IsFirstBy rule.NotMade (Buffer b) y =
      HoldsBelow (IsRight p) (length p.buffers) × HoldsBelow (IsWrittenOnce p) b
  IsFirstBy rule.UnequalInputs (Operation v) y = AreRight p × FitBefore p g v
  IsFirstBy rule.OtherInput (Input v k) y =
      AreRight p × FitBefore p g v × OfOperation v (λ x. HasAllInputs p v x × CarryBelow p g v x k)
  IsFirstBy rule.UnequalOutputs (Operation v) y = AreRight p × FitBefore p g v × OfOperation v (Takes p g v)
  IsFirstBy rule.OtherOutput (Output v k) y =
      AreRight p × FitBefore p g v ×
      OfOperation v (λ x. Takes p g v x × HasAllOutputs p v x × GiveBelow p v x k)
  IsFirstBy rule.UnequalLengths (Transfer m t) y = AreKeptBefore m t
  IsFirstBy rule.OtherValue (Transfer m t) y =
      AreKeptBefore m t × (len_of p (transfer p m t).received ≡ len_of p (transfer p m t).sent)
  IsFirstBy rule.MissingPair (Pair q) y = HoldsBelow (IsPaired p) q
  IsFirstBy rule.PairElsewhere (Pair q) y = HoldsBelow (IsPaired p) q
  IsFirstBy rule.EmptyNotTaken (Pair q) y = HoldsBelow (IsPaired p) q × OfReader q (IsDeclared p q)
  IsFirstBy rule.FullNotSignalled (Pair q) y =
      HoldsBelow (IsPaired p) q × OfReader q (IsDeclared p q) × IsInLoop y (IsEmptyTaken p q)
  IsFirstBy rule.FullNotTaken (Pair q) y =
      HoldsBelow (IsPaired p) q × OfReader q (λ r. IsDeclared p q r × IsWrittenBetween p q r)
  IsFirstBy rule.EmptyNotSignalled (Pair q) y =
      HoldsBelow (IsPaired p) q × OfReader q (λ r. IsDeclared p q r × IsWrittenBetween p q r) ×
      IsInLoop y (IsFullTaken p q)
  IsFirstBy rule.FurtherPair (Pair q) y = HoldsBelow (IsPaired p) q
  IsFirstBy rule.MissingSignal (Pair q) (Some y) = HoldsBelow (IsOpened p) y.sequence
  IsFirstBy rule.FurtherLine (Sequence s) y = HoldsBelow (IsOpened p) s
  IsFirstBy _ _ _ = ⊥

  -- The place shows its cause: this is wrong of its subject and its instruction.
  abbrev pub Shows : Place → Type 0
  Shows x = ShowsBy x.rule x.subject x.spot

  -- The place is the first of its cause that is wrong.
  abbrev pub IsFirst : Place → Type 0
  IsFirst x = IsFirstBy x.rule x.subject x.spot

  -- Each waits for an instruction that the run has not made.
  abbrev pub AreWaiting : List Waiting → Type 0
  AreWaiting ws =
      (i : ℕ) (w : Waiting) → slice_get ws i ≡ Some w →
      (y : Spot) × (w.awaits ≡ Some y) × (made (run p) y.sequence ≤ y.at)

  -- What was found explains this cause.
  abbrev pub Explains : Cause → Why → Type 0
  Explains c (Breaks x) = (cause_of x.rule ≡ c) × Shows x × IsFirst x
  Explains c (Stuck ws) = (c ≡ stuck_at (stuck p)) × AreWaiting ws

-- Where a program has a cause, what is found explains it.
abbrev pub WhyExplains : Type 0
WhyExplains = (p : Program) (g : Graph) (a : Architecture) (c : Cause) → IsTrue (is_archi a.operators a.media) →
    cause p g.vertices (sequences a) (length a.operators) (length a.media) ≡ Some c →
    (w : Why) × (why p g.vertices (sequences a) (length a.operators) (length a.media) ≡ Some w) ×
    Explains p g (sequences a) (length a.operators) (length a.media) c w

-- Nothing is found exactly where the program is well formed.
abbrev pub WhyIsExact : Type 0
WhyIsExact = (p : Program) (g : Graph) (a : Architecture) → IsTrue (is_archi a.operators a.media) →
    (why p g.vertices (sequences a) (length a.operators) (length a.media) ≡ None) ↔
    IsWellFormed p g (sequences a) (length a.media)
