-- The text of statements, part by part.
use Rattle.std.proofs.Common.{◌≡◌, ℕ, List, [], ◌++◌, Option, Some, None, refl, ap, ◌∙◌}
use Rattle.std.proofs.lemmas.List.{append_assoc}
use Rattle.std.proofs.lemmas.Grind.{flat_map-append}
use Rattle.schedule.specs.declared.Kind.{Kind}
use Rattle.schedule.specs.declared.Kind.TheVariants.{Sensor, Actuator, Function, Constant, Get, Set, Explode, Implode, Merge}
use Rattle.schedule.specs.declared.Vertex.{Vertex}
use Rattle.schedule.specs.declared.decision.Decision.{Decision}
use Rattle.syn_base.specs.Bytes.{Bytes}
use Rattle.graph_drawing.specs.FlatDrawing.{operation_text, statement_text, statements_text}
use Rattle.graph_drawing.specs.Statements.{Statement, conditions_from, inputs_from, keeping, statements_of}

pub text_append : (ds : List Decision) (xs ys : List Statement) → statements_text ds (xs ++ ys) ≡ statements_text ds xs ++ statements_text ds ys
text_append ds xs ys = flat_map-append (statement_text ds) xs ys

-- a delay is drawn alike wherever it is placed
pub keeping_same : (ds : List Decision) (v : ℕ) (k : Kind) (t : Option ℕ) → statements_text ds (keeping v k t) ≡ statements_text [] (keeping v k t)
unfolding keeping
keeping_same ds v Set (Some u) = refl
keeping_same ds v Set None = refl
keeping_same ds v (Sensor i) t = refl
keeping_same ds v (Actuator i) t = refl
keeping_same ds v (Function b) t = refl
keeping_same ds v (Constant z) t = refl
keeping_same ds v (Get z) t = refl
keeping_same ds v Explode t = refl
keeping_same ds v Implode t = refl
keeping_same ds v (Merge z) t = refl

-- an operation, its inputs, its guards, and its delay
pub whole_text : (ds : List Decision) (v : ℕ) (x : Vertex) → statements_text ds (statements_of v x)
    ≡ operation_text ds v x ++ (statements_text ds (inputs_from v 0 x.ins) ++ (statements_text ds (conditions_from v 0 x.guards) ++ statements_text [] (keeping v x.kind x.twin)))
whole_text ds v x =
    let inputs = inputs_from v 0 x.ins in
    let conditions = conditions_from v 0 x.guards in
    let kept = keeping v x.kind x.twin in
    ap (λ (l : Bytes). operation_text ds v x ++ l)
    (text_append ds inputs (conditions ++ kept)
    ∙ ap (λ (l : Bytes). statements_text ds inputs ++ l)
    (text_append ds conditions kept ∙ ap (λ (l : Bytes). statements_text ds conditions ++ l) (keeping_same ds v x.kind x.twin)))

-- five parts in the order in which they are appended
pub regroup : (a b c d e : Bytes) → (((a ++ b) ++ c) ++ d) ++ e ≡ a ++ (b ++ (c ++ (d ++ e)))
regroup a b c d e = simp append_assoc
