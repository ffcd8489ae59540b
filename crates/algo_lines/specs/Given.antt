-- What a call that reads or adds a name returns and leaves: what is defined, unless memory ran out.
use Rattle.std.specs.Prelude.{◌≡◌, ℕ, true, false, List, [], ◌∷◌, ◌++◌, Result, Ok, Err}
use Rattle.std.specs.List.{list_any}
use Rattle.std.specs.Str.{bytes_eq}
use Rattle.syn_base.specs.Bytes.{Bytes}
use Rattle.syn_base.specs.Name.{is_name}
use Rattle.text_lines.specs.declared.fault.TextError.TheVariants.{Refused, Limit, OutOfMemory}
use Rattle.algo_text.specs.Refusals.{AlgoError}
use Rattle.algo_text.specs.declared.fault.AlgoCause.TheVariants.{BadName, DuplicateName}

-- The name that a word is, or the line's refusal where it is none.
abbrev pub IsNamed : Result Bytes AlgoError → ℕ → Bytes → Type 0
IsNamed (Ok name) line word = (is_name word ≡ true) × (name ≡ word)
IsNamed (Err (Refused f)) line word = (is_name word ≡ false) × (f ≡ record { line = line; cause = BadName word })
IsNamed (Err OutOfMemory) line word = Unit {0}
IsNamed (Err (Limit f)) line word = ⊥

-- A name was added at the end, or the line refused since it was there.
abbrev pub AddsNew : {B : Type 0} → Result B AlgoError → ℕ → List Bytes → Bytes → List Bytes → Type 0
AddsNew (Ok _) line old name new = (list_any (bytes_eq name) old ≡ false) × (new ≡ old ++ name ∷ [])
AddsNew (Err (Refused f)) line old name new =
    (list_any (bytes_eq name) old ≡ true) × (f ≡ record { line = line; cause = DuplicateName name })
AddsNew (Err OutOfMemory) line old name new = Unit {0}
AddsNew (Err (Limit f)) line old name new = ⊥
