-- Where there is a cause, a reason is found, and it shows the cause.
use Rattle.std.proofs.Common.{◌≡◌, ℕ, List, length, Option, Some, None, refl, sym, ap, subst, ◌∙◌}
use Rattle.sequence_build_laws.specs.Graph.{Graph}
use Rattle.sequence_build_laws.specs.Sequences.{sequences}
use Rattle.sequence_build_laws.specs.declared.Seq.{Seq}
use Rattle.sequence_build_laws.specs.declared.Program.{Program}
use Rattle.check_laws.specs.Laws.{IsCause}
use Rattle.check_laws.specs.Run.{Place as RunPlace}
use Rattle.check_laws.specs.Tests.{Cause, sequences_differ, calls_wrong, transfers_wrong, buffers_wrong, pairs_wrong, prologue_wrong, stuck_at}
use Rattle.check_laws.proofs.Causes.{exact}
use Rattle.check_places.specs.declared.place.Place.{Place}
use Rattle.check_places.specs.declared.place.Why.{Why}
use Rattle.check_places.specs.declared.place.Why.TheVariants.{Breaks, Stuck}
use Rattle.check_places.specs.Buffers.{buffers_place}
use Rattle.check_places.specs.Calls.{calls_place}
use Rattle.check_places.specs.Names.{names_place}
use Rattle.check_places.specs.Pairs.{pairs_place, prologue_place}
use Rattle.check_places.specs.Shown.{AreWaiting, Explains, IsFirst, Shows, WhyExplains, cause_of}
use Rattle.check_places.specs.Transfers.{transfers_place}
use Rattle.check_places.specs.Waits.{waitings}
use Rattle.check_places.specs.Why.{breaks, why_by, why_of}
use Rattle.check_places.proofs.NamesTold.{named, names_told}
use Rattle.check_places.proofs.CallsTold.{called, calls_told}
use Rattle.check_places.proofs.TransfersTold.{transferred, transfers_told}
use Rattle.check_places.proofs.ValuesTold.{buffers_told, written}
use Rattle.check_places.proofs.PairsTold.{all_guarded, pairs_told}
use Rattle.check_places.proofs.PrologueTold.{all_opened, prologue_told}
use Rattle.check_places.proofs.Stopped.{are_waiting}

module _ (p : Program) (g : Graph) (seqs : List Seq) (operators media : ℕ) where
  abbrev Reason : Cause → Option Why → Type 0
  Reason c o = (w : Why) × (o ≡ Some w) × Explains p g seqs operators media c w

  -- the first place is a reason
  reason : (c : Cause) (o : Option Place) → (o ≡ None → ⊥)
      → ((y : Place) → o ≡ Some y → (cause_of y.rule ≡ c) × Shows p g seqs operators media y × IsFirst p g seqs operators media y) → Reason c (breaks o)
  reason c None some told = absurd (some refl)
  reason c (Some y) some told = (Breaks y, refl, told y refl)

  explained : (c : Cause) → IsCause p g seqs operators media c → Reason c (why_of p g.vertices seqs operators media c)
  explained sequences_differ h = reason sequences_differ (names_place p (length g.vertices) operators seqs) (λ e. h (named p g seqs operators media e)) (names_told p g seqs operators media)
  explained calls_wrong h = reason calls_wrong (calls_place p g.vertices) (λ e. h.1 (called p g seqs operators media e)) (calls_told p g seqs operators media)
  explained transfers_wrong h = reason transfers_wrong (transfers_place p media) (λ e. h.2 (transferred p g seqs operators media e)) (transfers_told p g seqs operators media)
  explained buffers_wrong h = reason buffers_wrong (buffers_place p g.vertices media) (λ e. h.3 (written p g seqs operators media h.1 e)) (buffers_told p g seqs operators media h.1 h.2)
  explained pairs_wrong h = reason pairs_wrong (pairs_place p) (λ e. h.4 (all_guarded p g seqs operators media e)) (pairs_told p g seqs operators media h.3)
  explained prologue_wrong h = reason prologue_wrong (prologue_place p) (λ e. h.5 (all_opened p g seqs operators media e)) (prologue_told p g seqs operators media)
  explained (stuck_at places) h = (
    Stuck (waitings p places),
    refl,
    (
      ap (λ (zs : List RunPlace). stuck_at zs) h.2,
      subst (λ (zs : List RunPlace). AreWaiting p g seqs operators media (waitings p zs)) (sym h.2) (are_waiting p g seqs operators media),
    ),
  )

pub why_explains : WhyExplains
why_explains p g a c valid e =
    let r = explained p g (sequences a) (length a.operators) (length a.media) c (exact p g (sequences a) (length a.operators) (length a.media) c e) in
    (r.0, ap (why_by p g.vertices (sequences a) (length a.operators) (length a.media)) e ∙ r.1, r.2)
