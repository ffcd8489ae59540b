-- Where definitions stand in a list of them, and their ports in a table beside it.
use Rattle.std.specs.Prelude.{
  ◌≡◌,
  ℕ,
  ◌<◌,
  List,
  [],
  ◌∷◌,
  length,
  Option,
  Some,
  None,
  Result,
  Ok,
  Err,
  slice_get,
  slice_index_or,
}
use Rattle.algo_text.specs.declared.definition.Def.{Def}
use Rattle.syn_base.specs.Bytes.{Bytes}
use Rattle.algo_text.specs.Refusals.{AlgoError, AlgoRefusal}
use Rattle.algo_text.specs.Returned.{Tells}
use Rattle.algo_rules.specs.Links.{definition}
use Rattle.algo_rules.specs.Ports.{no_ports, ports_of}
use Rattle.algo_rules.specs.declared.ports.Ports.{Ports}

-- a definition of this name stands at this place, and its ports at the same place of the table
pub record IsPlaced (ds : List Def) (table : List Ports) (name : Bytes) (place : ℕ) : Type 0 where
  pub below : place < length ds
  pub in_table : place < length table
  pub found : definition ds name ≡ slice_get ds place
  pub ports : slice_index_or table place no_ports ≡ ports_of ds name

-- each of these names at its place
abbrev pub ArePlaced : List Def → List Ports → List Bytes → List ℕ → Type 0
ArePlaced ds table [] [] = Unit {0}
ArePlaced ds table [] (p ∷ ps) = ⊥
ArePlaced ds table (w ∷ ws) [] = ⊥
ArePlaced ds table (w ∷ ws) (p ∷ ps) = IsPlaced ds table w p × ArePlaced ds table ws ps

-- What a check answered is the fault that there is, or that there is none. Want of memory may come in place of
-- anything.
abbrev pub Checks : {A : Type 0} → Result A AlgoError → Option AlgoRefusal → Type 0
Checks (Ok done) expected = expected ≡ None
Checks (Err e) expected = Tells e expected
