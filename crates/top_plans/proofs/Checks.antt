-- What is told of a check, from the check itself.
use Rattle.std.proofs.Common.{◌≡◌, length, Some, None, ap}
use Rattle.std.specs.Prelude.{IsTrue, option_map}
use Rattle.check_laws.specs.Tests.{Cause, cause}
use Rattle.check_laws.proofs.Whole.{no_cause_is_well_formed}
use Rattle.self_timed.specs.Graph.{Graph}
use Rattle.self_timed.specs.Archi.{Architecture, is_archi}
use Rattle.self_timed.specs.Sequences.{sequences}
use Rattle.self_timed.specs.declared.Program.{Program}
use Rattle.self_timed.specs.WellFormed.{IsWellFormed}
use Rattle.top_plans.specs.Checks.{told, lacking}

pub lacks : (g : Graph) (a : Architecture) (p : Program) (k : Cause) → cause p g.vertices (sequences a) (length a.operators) (length a.media) ≡ Some k → lacking g a p ≡ Some (told k)
lacks g a p k e = ap (option_map told) e

pub lacks_nothing : (g : Graph) (a : Architecture) (p : Program) → IsTrue (is_archi a.operators a.media) → IsWellFormed p g (sequences a) (length a.media) → lacking g a p ≡ None
lacks_nothing g a p valid formed = ap (option_map told) ((no_cause_is_well_formed p g a valid).1 formed)
