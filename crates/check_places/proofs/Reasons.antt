-- What is right of a program before each cause, and that what is found is the reason of its cause.
use Rattle.std.proofs.Common.{◌≡◌, ℕ, List, length, Option, Some, None, refl, sym, ap, subst, ◌∙◌}
use Rattle.std.specs.Prelude.{◌↔◌, IfSome, IsNone, IsTrue}
use Rattle.std.proofs.lemmas.Option.{same_Some}
use Rattle.sequence_build_laws.specs.Graph.{Graph}
use Rattle.sequence_build_laws.specs.Archi.{Architecture, is_archi}
use Rattle.sequence_build_laws.specs.Sequences.{sequences}
use Rattle.sequence_build_laws.specs.declared.Seq.{Seq}
use Rattle.sequence_build_laws.specs.declared.Program.{Program}
use Rattle.sequence_build_laws.specs.WellFormed.{IsOrder, IsWellFormed}
use Rattle.check_laws.specs.Laws.{IsCause}
use Rattle.check_laws.specs.Tests.{Cause, sequences_differ, calls_wrong, transfers_wrong, buffers_wrong, pairs_wrong, prologue_wrong, stuck_at, cause}
use Rattle.check_laws.proofs.Whole.{no_cause_is_well_formed}
use Rattle.macro_check.proofs.Lacks.{are_there}
use Rattle.macro_check.proofs.Sourced.{are_low}
use Rattle.check_places.specs.declared.place.Why.{Why}
use Rattle.check_places.specs.Shown.{Explains}
use Rattle.check_places.specs.Why.{RightBefore, why, why_by, why_of}
use Rattle.check_places.proofs.Exact.{why_is_exact}
use Rattle.check_places.proofs.Explained.{why_explains}

module _ (p : Program) (g : Graph) (seqs : List Seq) (operators media : ℕ) where
  pub right_before : (c : Cause) → IsCause p g seqs operators media c → RightBefore p media c
  right_before sequences_differ h = tt
  right_before calls_wrong h = tt
  right_before transfers_wrong h = tt
  right_before buffers_wrong h = (h.2, are_low p media (are_there p (length g.vertices) operators seqs h.0) h.2)
  right_before pairs_wrong h = tt
  right_before prologue_wrong h = tt
  right_before (stuck_at places) h = record {
    named = (are_there p (length g.vertices) operators seqs h.0.named).pairs;
    transferred = h.0.transferred;
    guarded = h.0.guarded;
  }

module _ (p : Program) (g : Graph) (a : Architecture) where
  abbrev reason : Option Why
  reason = why p g.vertices (sequences a) (length a.operators) (length a.media)

  pub of_cause : (c : Cause) → cause p g.vertices (sequences a) (length a.operators) (length a.media) ≡ Some c
      → why_of p g.vertices (sequences a) (length a.operators) (length a.media) c ≡ reason
  of_cause c e = sym (ap (why_by p g.vertices (sequences a) (length a.operators) (length a.media)) e)

  module _ (valid : IsTrue (is_archi a.operators a.media)) where
    pub of_order : (order : List ℕ) → IsOrder p g (sequences a) (length a.media) order → None ≡ reason
    of_order order h =
        sym (ap (why_by p g.vertices (sequences a) (length a.operators) (length a.media)) ((no_cause_is_well_formed p g a valid).1 (order, h)))

    -- none exactly where the program is well formed
    pub exactly : (o : Option Why) → o ≡ reason → IsNone o ↔ IsWellFormed p g (sequences a) (length a.media)
    exactly None e = (λ n. (why_is_exact why_explains p g a valid).0 (sym e), λ w. refl)
    exactly (Some x) e =
        (λ n. absurd cc, λ w. let both : Some x ≡ None = e ∙ (why_is_exact why_explains p g a valid).1 w in absurd cc)

    -- and it explains every cause
    pub shows : (o : Option Why) → o ≡ reason
        → IfSome o (λ w. (c : Cause) → cause p g.vertices (sequences a) (length a.operators) (length a.media) ≡ Some c
        → Explains p g (sequences a) (length a.operators) (length a.media) c w)
    shows None e = tt
    shows (Some x) e = λ c h.
        let r = why_explains p g a c valid h in
        subst (λ (w : Why). Explains p g (sequences a) (length a.operators) (length a.media) c w) (same_Some r.0 x (sym r.1 ∙ sym e)) r.2
