-- What is answered of definitions, from what their checks answered.
use Rattle.std.proofs.Common.{◌≡◌, List, [], ◌∷◌, map, Option, None, Ok, Err, codes, ap, sym, subst, ◌∙◌}
use Rattle.std.specs.Prelude.{Result, IfOk}
use Rattle.syn_base.specs.Bytes.{Bytes}
use Rattle.text_lines.specs.declared.fault.TextError.TheVariants as error
use Rattle.text_lines.specs.Refusals.{Gives}
use Rattle.algo_laws.specs.Refusals.{AlgoError, AlgoRefusal}
use Rattle.algo_check.proofs.InOrder.{both_none}
use Rattle.algo_laws.specs.declared.Def.{Def}
use Rattle.algo_laws.specs.declared.Source.{Source}
use Rattle.algo_laws.specs.declared.Part.TheVariants.{Named}
use Rattle.algo_laws.specs.Tree as tree
use Rattle.algo_laws.specs.Returned.{Tells}
use Rattle.algo_laws.specs.RuleLinks.{links_of, misplaced, recursive, too_deep, unknown}
use Rattle.algo_laws.specs.Ports.{ports_of}
use Rattle.algo_laws.specs.Resolved.{Making, bodies_fault, no_main, refusal, resolution_of, resolved_by, too_many, tree_of}
use Rattle.algo_laws.specs.WellRead.{AreWellRead}
use Rattle.algo_laws.specs.declared.Ports.{Ports}
use Rattle.algo_laws.specs.ReferenceLinks.{Links}
use Rattle.algo_resolve.specs.Ready.{IsReady}
use Rattle.algo_resolve.specs.Rounds.{pruned_result}
use Rattle.wiring_laws.specs.Pruned.{pruned}

-- the same answer, where it is told in another way
pub retold : {A B E : Type 0} (f : A → B) (r : Result A E) (x y : B) → x ≡ y → IfOk r (λ v. f v ≡ x) → IfOk r (λ v. f v ≡ y)
retold f r x y same h = subst (λ z. IfOk r (λ v. f v ≡ z)) same h

-- what follows from an answer holds of it
pub follows : {A E : Type 0} (r : Result A E) (P Q : A → Type 0) → ((v : A) → P v → Q v) → IfOk r P → IfOk r Q
follows (Ok v) P Q f h = f v h
follows (Err e) P Q f h = h

-- the vertex of `main`, by whatever makes vertices
pub main_by : (make : Making) (bytes name : Bytes) (ins : List Source) → bytes ≡ codes "main" → name ≡ codes "main" → ins ≡ []
    → make (Named bytes) name ins 0 0 ≡ make (Named (codes "main")) (codes "main") [] 0 0
main_by make bytes name ins same named none =
    ap (λ (w : Bytes). make (Named w) name ins 0 0) same
    ∙ ap (λ (w : Bytes). make (Named (codes "main")) w ins 0 0) named
    ∙ ap (λ (ss : List Source). make (Named (codes "main")) (codes "main") ss 0 0) none

module _ (ds : List Def) where
  abbrev result_by : Option AlgoRefusal → Result tree.Vertex AlgoRefusal
  result_by o = pruned_result (resolved_by ds o)

  by_refusal : (e : AlgoError) (o : Option AlgoRefusal) → Tells e o → Gives (Err e) (result_by o)
  by_refusal (error.Refused f) o h = ap result_by h
  by_refusal (error.Limit f) o h = ap result_by h
  by_refusal error.OutOfMemory o h = tt

  -- a refusal
  pub refused : (e : AlgoError) → Tells e (refusal ds) → Gives {A = tree.Vertex} (Err e) (pruned_result (resolution_of ds))
  refused e h = by_refusal e (refusal ds) h

  -- and the tree, if there is none
  pub given : (t : tree.Vertex) → refusal ds ≡ None → t ≡ pruned (tree_of ds) → pruned_result (resolution_of ds) ≡ Ok t
  given t none is = ap result_by none ∙ sym (ap (λ (u : tree.Vertex). Ok u) is)

  pub are_ready : (links : Links) (table : List Ports) → AreWellRead ds → refusal ds ≡ None → links ≡ links_of ds → table ≡ map (λ d. ports_of ds d.name) ds → IsReady ds links table
  are_ready links table read none linked ports = record {
    read = read.bodies;
    known = (both_none (unknown ds) (misplaced ds ∷ recursive ds ∷ too_deep ds ∷ bodies_fault ds ∷ no_main ds ∷ too_many ds ∷ []) none).0;
    linked = linked;
    ports = ports;
  }
