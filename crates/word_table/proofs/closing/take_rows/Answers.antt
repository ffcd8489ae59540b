use Rattle.std.proofs.Common.{◌≡◌, ◌<◌, ◌+◌, ◌∙◌, ℕ, List, length, get_or, Some, refl, sym, ap, subst, arith}
use Rattle.std.specs.Prelude.{slice_get}
use Rattle.std.proofs.lemmas.Option.{slice_get_read, get_or_from_slice_get}
use Rattle.syn_base.specs.Rows.{Reactions}
use Rattle.executive_program.specs.Graph.{Graph}
use Rattle.executive_program.specs.FlatValid.{is_flat}
use Rattle.executive_program.specs.declared.Kind.TheVariants.{Actuator}
use Rattle.executive_program.specs.declared.Vertex.{Vertex}
use Rattle.word_table.specs.Ends.{TakesRow}
use Rattle.word_table.proofs.TakingRows.{AreTaken, one_taken, none_taken, all_taken}
use Rattle.word_table.proofs.closing.take_rows.Goals.{then-callers-v+in-Actuator, then-callers-v+in_default, else-callers-v}
use Rattle.word_table.proofs.closing.take_rows.Goals as goal

pub take_row-requires-clause-here : goal.take_row-requires-clause-here
take_row-requires-clause-here c = (
  subst (λ (l : List ℕ). c.in-Actuator.actuator < length l) (sym c.loop-v.invariant.0) (c.requires.laid c.loop-v.v c.index-vertices-v.result c.in-Actuator.actuator stands kind).0,
  (c.requires.others_laid c.loop-v.v c.if-callers-v.true c.index-vertices-v.result c.in-Actuator.actuator stands kind).0,
)
  where
    stands : slice_get c.args.job.now.graph.vertices c.loop-v.v ≡ Some c.index-vertices-v.result
    stands = ap (λ (l : List Vertex). slice_get l c.loop-v.v) (sym (c.vertices-vertices.ensures.same ∙ ap (λ (g : Graph). g.vertices) c.flat.ensures))
        ∙ slice_get_read c.vertices-vertices.result.now (length c.vertices-vertices.result.now) c.loop-v.v c.index-vertices-v.result refl c.loop-v-test.true c.index-vertices-v.is

    kind : c.index-vertices-v.result.kind ≡ Actuator c.in-Actuator.actuator
    kind = ap (λ (x : Vertex). x.kind) c.index-vertices-v.is ∙ c.in-Actuator.is

pub take_row-requires-clause-len : goal.take_row-requires-clause-len
take_row-requires-clause-len c =
    (c.requires.others_laid c.loop-v.v c.if-callers-v.true c.index-vertices-v.result c.in-Actuator.actuator stands kind).1
    ∙ sym (c.requires.laid c.loop-v.v c.index-vertices-v.result c.in-Actuator.actuator stands kind).1
    ∙ ap (λ (l : List ℕ). get_or l c.in-Actuator.actuator 0) (sym c.loop-v.invariant.0)
  where
    stands : slice_get c.args.job.now.graph.vertices c.loop-v.v ≡ Some c.index-vertices-v.result
    stands = ap (λ (l : List Vertex). slice_get l c.loop-v.v) (sym (c.vertices-vertices.ensures.same ∙ ap (λ (g : Graph). g.vertices) c.flat.ensures))
        ∙ slice_get_read c.vertices-vertices.result.now (length c.vertices-vertices.result.now) c.loop-v.v c.index-vertices-v.result refl c.loop-v-test.true c.index-vertices-v.is

    kind : c.index-vertices-v.result.kind ≡ Actuator c.in-Actuator.actuator
    kind = ap (λ (x : Vertex). x.kind) c.index-vertices-v.is ∙ c.in-Actuator.is

pub loop-v-preserved : goal.loop-v-preserved
loop-v-preserved c = let a = c.args in let v = c.loop-v.v in let j = a.job.now in let xs = c.vertices-vertices.result.now in
    let same = c.vertices-vertices.ensures.same ∙ ap (λ (g : Graph). g.vertices) c.flat.ensures in
    elim c.if-callers-v.branch [
      | then-callers-v+in-Actuator w ↦ let x = w.index-vertices-v.result in
          one_taken j a.rows.now a.others.now a.callers.now a.groups a.group (ap is_flat (sym c.flat.ensures) ∙ c.vertices-vertices.ensures.valid) v w.in-Actuator.actuator x
          (ap (λ (l : List Vertex). slice_get l v) (sym same) ∙ slice_get_read xs (length xs) v x refl c.loop-v-test.true w.index-vertices-v.is)
          (ap (λ (x : Vertex). x.kind) w.index-vertices-v.is ∙ w.in-Actuator.is) w.if-callers-v.true c.loop-v.rows c.if-callers-v.rows
          (subst (λ (r : Reactions). TakesRow c.loop-v.rows r a.others.now w.in-Actuator.actuator) (sym w.rows-is) w.take_row.ensures) c.loop-v.invariant
      | then-callers-v+in_default w ↦
          subst (AreTaken j a.rows.now a.others.now a.callers.now a.groups a.group (v + 1)) (sym w.rows-is)
          (none_taken j a.rows.now a.others.now a.callers.now a.groups a.group v c.loop-v.rows
          (λ x b e k q. w.in_default.not-Actuator b
          (ap (λ (x : Vertex). x.kind) (get_or_from_slice_get xs v x w.index-vertices-v.result
          (ap (λ (l : List Vertex). slice_get l v) same ∙ e)) ∙ k)) c.loop-v.invariant)
      | else-callers-v w ↦
          subst (AreTaken j a.rows.now a.others.now a.callers.now a.groups a.group (v + 1)) (sym w.rows-is)
          (none_taken j a.rows.now a.others.now a.callers.now a.groups a.group v c.loop-v.rows (λ x b e k q. w.if-callers-v.false q) c.loop-v.invariant)
    ]

pub returns : goal.returns
returns c = let a = c.args in
    all_taken a.job.now a.rows.now a.others.now a.callers.now a.groups a.group c.loop-v.v c.loop-v.rows
    (let e = ap (λ (g : Graph). length g.vertices) c.flat.ensures in let s = ap (length {A = Vertex}) c.vertices-vertices.ensures.same in
    let t = c.loop-v-test.false in omega (arith, e, s, t)) c.loop-v.invariant
