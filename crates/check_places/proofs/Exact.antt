-- There is no reason exactly where there is no cause.
use Rattle.std.proofs.Common.{◌≡◌, length, Option, Some, None, refl, sym, ap, ◌∙◌}
use Rattle.std.specs.Prelude.{IsTrue}
use Rattle.sequence_build_laws.specs.Graph.{Graph}
use Rattle.sequence_build_laws.specs.Archi.{Architecture, is_archi}
use Rattle.sequence_build_laws.specs.Sequences.{sequences}
use Rattle.sequence_build_laws.specs.declared.Program.{Program}
use Rattle.check_laws.specs.Tests.{Cause, cause}
use Rattle.check_laws.proofs.Whole.{no_cause_is_well_formed}
use Rattle.check_places.specs.Why.{why, why_by}
use Rattle.check_places.specs.Shown.{WhyExplains, WhyIsExact}

module _ (p : Program) (g : Graph) (a : Architecture) where
  none_where_none : cause p g.vertices (sequences a) (length a.operators) (length a.media) ≡ None
      → why p g.vertices (sequences a) (length a.operators) (length a.media) ≡ None
  none_where_none e = ap (why_by p g.vertices (sequences a) (length a.operators) (length a.media)) e

  no_cause : WhyExplains → IsTrue (is_archi a.operators a.media) → why p g.vertices (sequences a) (length a.operators) (length a.media) ≡ None
      → cause p g.vertices (sequences a) (length a.operators) (length a.media) ≡ None
  no_cause explains valid none = by (cause p g.vertices (sequences a) (length a.operators) (length a.media)) refl
    where
      by : (o : Option Cause) → cause p g.vertices (sequences a) (length a.operators) (length a.media) ≡ o
          → cause p g.vertices (sequences a) (length a.operators) (length a.media) ≡ None
      by None e = e
      by (Some c) e =
          let found = explains p g a c valid e in
          let both : Some found.0 ≡ None = sym found.1 ∙ none in
          absurd cc

pub why_is_exact : WhyExplains → WhyIsExact
why_is_exact explains p g a valid =
    let exact = no_cause_is_well_formed p g a valid in
    (λ none. exact.0 (no_cause p g a explains valid none), λ w. none_where_none p g a (exact.1 w))
