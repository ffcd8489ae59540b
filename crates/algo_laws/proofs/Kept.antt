-- What holds of all that was read so far: the definitions are well read, and the open block as far as it is there.
use Rattle.std.proofs.Common.{◌≡◌, ℕ, ◌≤◌, Bool, not, ◌||◌, ◌==◌, true, false, Result, Ok, Err, List, [], ◌∷◌, ◌++◌, length, map, refl, sym, ap, ◌∙◌, subst, append-nil}
use Rattle.std.specs.Prelude.{All}
use Rattle.std.proofs.lemmas.List.{map-append}
use Rattle.std.proofs.lemmas.List.Elements.{All-push}
use Rattle.syn_base.specs.Bytes.{Bytes}
use Rattle.syn_base.specs.declared.limits.LimitKind.TheVariants as limits
use Rattle.syn_base.specs.Limits.{bound_of}
use Rattle.algo_rules.specs.Refusals.{AlgoRefusal}
use Rattle.algo_rules.specs.Expr.{PortsBelow}
use Rattle.algo_rules.specs.Well.{AreDistinctNames}
use Rattle.algo_rules.specs.declared.Body.{Body}
use Rattle.algo_rules.specs.declared.Def.{Def}
use Rattle.algo_rules.specs.Blocks.{Block}
use Rattle.algo_rules.specs.Text.{Stage, before_version, between, in_function, in_graph, in_switch, in_repeat, Reading, in_block, block_end}
use Rattle.algo_rules.proofs.Checks.{neither, never, not_false, passed, same_ok}
use Rattle.algo_rules.specs.declared.Part.TheVariants.{Inputs}
use Rattle.algo_rules.specs.Parts.{admits, is_conditioning}
use Rattle.algo_rules.specs.WellRead.{IsName, port_names, ArePorts, ports_in, IsGraph, IsRepetition, IsWellRead}

-- no input may follow an output
pub record IsOpenFunction (b : Block) : Type 0 where
  pub inputs : ArePorts b.ins
  pub outputs : ArePorts (ports_in b.results)
  pub distinct : AreDistinctNames (port_names b.ins ++ port_names (ports_in b.results))
  pub formulas : All (λ o. PortsBelow (length b.ins) o.formula) b.results
  pub none_yet : admits b.part Inputs ≡ true → b.results ≡ []

-- no port stands before the line `on`
pub record IsOpenSwitch (b : Block) : Type 0 where
  pub named : is_conditioning b.part ≡ false → IsName b.on
  pub inputs : ArePorts b.ins
  pub outputs : ArePorts b.outs
  pub distinct : AreDistinctNames (b.on ∷ (port_names b.ins ++ port_names b.outs))
  pub few : length b.cases ≤ bound_of limits.Cases
  pub no_inputs : is_conditioning b.part ≡ true → b.ins ≡ []
  pub no_outputs : is_conditioning b.part ≡ true → b.outs ≡ []

abbrev pub IsOpen : Stage → Block → Type 0
IsOpen before_version b = Unit {0}
IsOpen between b = Unit {0}
IsOpen in_function b = IsOpenFunction b
IsOpen in_graph b = IsGraph b.ins b.outs b.references
IsOpen in_switch b = IsOpenSwitch b
IsOpen in_repeat b = IsRepetition b.copies b.frontier

-- the open block's name, where one is open
abbrev pub open_name : Stage → Block → List Bytes
open_name before_version b = []
open_name between b = []
open_name in_function b = b.name ∷ []
open_name in_graph b = b.name ∷ []
open_name in_switch b = b.name ∷ []
open_name in_repeat b = b.name ∷ []

abbrev pub names_of : List Def → List Bytes
names_of ds = map (λ d. d.name) ds

pub record Kept (s : Stage) (names : List Bytes) (defs : List Def) (b : Block) : Type 0 where
  pub names_are : names ≡ names_of defs ++ open_name s b
  pub named : All IsName names
  pub once : AreDistinctNames names
  pub bodies : All (λ d. IsWellRead d.body) defs
  pub well : IsOpen s b

abbrev pub IsKept : Reading → Type 0
IsKept r = Kept r.stage r.names r.defs r.block

-- a line of an open block keeps the block's name
abbrev pub Goes : Stage → Block → Block → Type 0
Goes s b after = (b.name ≡ after.name) × IsOpen s after

same_name : (s : Stage) (b after : Block) → b.name ≡ after.name → open_name s b ≡ open_name s after
same_name before_version b after h = refl
same_name between b after h = refl
same_name in_function b after h = ap (λ (w : Bytes). w ∷ []) h
same_name in_graph b after h = ap (λ (w : Bytes). w ∷ []) h
same_name in_switch b after h = ap (λ (w : Bytes). w ∷ []) h
same_name in_repeat b after h = ap (λ (w : Bytes). w ∷ []) h

abbrev pub reading : Stage → ℕ → List Bytes → List Def → Block → Reading
reading s version names defs b = record { stage = s; version = version; names = names; defs = defs; block = b }

pub line_kept : (s : Stage) (version : ℕ) (names : List Bytes) (defs : List Def) (b : Block) → Kept s names defs b → (x : Result Block AlgoRefusal) (r : Reading)
    → ((after : Block) → x ≡ Ok after → Goes s b after) → in_block (reading s version names defs b) x ≡ Ok r → IsKept r
line_kept s version names defs b kept (Err e) r goes h = never e r h
line_kept s version names defs b kept (Ok after) r goes h =
    let g = goes after refl in
    subst (λ (q : Reading). IsKept q) (same_ok (reading s version names defs after) r h) (record {
      names_are = kept.names_are ∙ ap (λ (l : List Bytes). names_of defs ++ l) (same_name s b after g.0);
      named = kept.named;
      once = kept.once;
      bodies = kept.bodies;
      well = g.1;
    })

pub names_with : (defs : List Def) (d : Def) → names_of defs ++ d.name ∷ [] ≡ names_of (defs ++ d ∷ []) ++ []
names_with defs d = sym (map-append (λ e. e.name) defs (d ∷ [])) ∙ sym (append-nil (names_of (defs ++ d ∷ [])))

-- the line that ends a block of this kind
pub end_kept : (s : Stage) (version : ℕ) (names : List Bytes) (defs : List Def) (b : Block) → Kept s names defs b → open_name s b ≡ b.name
    ∷ [] → (whole : Bool) (body : Body) (n : ℕ) (ws : List Bytes) (r : Reading)
    → (whole ≡ true → IsWellRead body) → block_end whole body (reading s version names defs b) n ws ≡ Ok r → IsKept r
end_kept s version names defs b kept name_is whole body n ws r is_well h =
    let form = passed (not (length ws == 1) || not whole) _ _ r h in
    let d : Def = record { name = b.name; line = b.line; body = body } in
    subst (λ (q : Reading). IsKept q) (same_ok _ r form.1) (record {
      names_are = kept.names_are ∙ ap (λ (l : List Bytes). names_of defs ++ l) name_is ∙ names_with defs d;
      named = kept.named;
      once = kept.once;
      bodies = All-push (λ e. IsWellRead e.body) defs d kept.bodies (is_well (not_false whole (neither (not (length ws == 1)) (not whole) form.0).1));
      well = tt;
    })
