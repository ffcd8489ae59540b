-- The medium over which a value comes, decision by decision.
use Rattle.std.proofs.Common.{◌≡◌, ℕ, suc, ◌+◌, ◌<◌, List, [], ◌∷◌, length, drop, get_or, Option, Some, None, sym, ap, arith, ◌∙◌, drop-cons}
use Rattle.std.specs.List.{find}
use Rattle.schedule.specs.declared.Source.{Source}
use Rattle.schedule.specs.declared.decision.Transfer.{Transfer}
use Rattle.schedule.specs.declared.decision.Decision.{Decision}
use Rattle.graph_drawing.specs.FlatDrawing.{medium_or, medium_to}
use Rattle.schedule.specs.Acts.{brings}

module _ (ds : List Decision) (s : Source) (o : ℕ) where
  step : (i : ℕ) (d : Decision) (f : Option Transfer) → i < length ds → d ≡ get_or ds i d → f ≡ find (brings o s) d.transfers
      → medium_to (drop i ds) s o ≡ medium_or f (medium_to (drop (i + 1) ds) s o)
  step i d f h is e =
      let one : suc i ≡ i + 1 = omega arith in
      let begins : drop i ds ≡ d ∷ drop (i + 1) ds = drop-cons ds i d h ∙ (λ j. sym is j ∷ drop (one j) ds) in
      ap (λ (l : List Decision). medium_to l s o) begins ∙ ap (λ (g : Option Transfer). medium_or g (medium_to (drop (i + 1) ds) s o)) (sym e)

  -- a decision with such a transfer decides
  pub found : (whole : Option ℕ) (i : ℕ) (d : Decision) (t : Transfer) → i < length ds → d ≡ get_or ds i d → Some t ≡ find (brings o s) d.transfers
      → medium_to (drop i ds) s o ≡ whole → Some t.medium ≡ whole
  found whole i d t h is e l = sym (step i d (Some t) h is e) ∙ l

  -- one without leaves it to those after it
  pub passed : (whole : Option ℕ) (i : ℕ) (d : Decision) → i < length ds → d ≡ get_or ds i d → None ≡ find (brings o s) d.transfers
      → medium_to (drop i ds) s o ≡ whole → medium_to (drop (i + 1) ds) s o ≡ whole
  passed whole i d h is e l = sym (step i d None h is e) ∙ l
