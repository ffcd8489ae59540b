-- Both checks together decide.
use Rattle.std.proofs.Common.{◌≡◌, ◌+◌, ◌/◌, ◌≤◌, Bool, true, false, ◌&&◌, List, [], length, sym, ap, ◌∙◌, arith}
use Rattle.std.specs.Prelude.{IsTrue, nat_le}
use Rattle.std.proofs.lemmas.Bool.{and_parts, leb-true}
use Rattle.std.specs.List.{list_all, range_with_len}
use Rattle.durations.specs.Graph.{Graph}
use Rattle.durations.specs.FlatOrder.{is_acyclic}
use Rattle.durations.specs.FlatValid.{is_flat, is_vertex, all_from, are_named_apart, sensors_from, actuators_from, kinds_of}
use Rattle.durations.specs.Archi.{Architecture, is_archi}
use Rattle.durations.specs.Table.{Table, entry_in}
use Rattle.schedule.specs.declared.decision.Decision.{Decision}
use Rattle.schedule.specs.declared.decision.Schedule.{Schedule}
use Rattle.schedule.specs.declared.setting.Setting.{Setting}
use Rattle.schedule.specs.declared.line.Lines.{Lines}
use Rattle.schedule.specs.Acts.{acts_of}
use Rattle.schedule.specs.Valid.{is_valid}
use Rattle.schedule.specs.Lines.{IsSetting, IsStart, are_in_line}
use Rattle.schedule.specs.Windows.{are_fed_from}
use Rattle.schedule.proofs.Archis.{few_operators, few_media, below}
use Rattle.schedule.proofs.Checked.{checked}
use Rattle.schedule.proofs.Lining.{in_line_same, told_at_start}

-- what is asked: the setting is that of these
pub record Asked (s : Setting) (g : Graph) (a : Architecture) (table : Table) : Type 0 where
  pub vertices : s.vertices.now ≡ g.vertices
  pub operators : s.operators ≡ length a.operators
  pub media : s.media.now ≡ a.media
  pub durations : s.durations.now ≡ table
  pub flat : is_flat g ≡ true
  pub archi : is_archi a.operators a.media ≡ true
  pub few : length g.vertices ≤ 2048

-- a valid graph has few operations
pub few_operations : (g : Graph) → is_flat g ≡ true → length g.vertices ≤ 2048
few_operations g h =
    let sensors = sensors_from 0 (kinds_of g.vertices) in
    let actuators = actuators_from 0 (kinds_of g.vertices) in
    let each = all_from (is_vertex g) 0 g.vertices in
    let apart = are_named_apart g.vertices in
    let few = nat_le (length g.vertices) 2048 in
    let p = and_parts (few && apart && each && sensors && actuators) (is_acyclic g.vertices) h in
    let q = and_parts (few && apart && each && sensors) actuators p.0 in
    let r = and_parts (few && apart && each) sensors q.0 in
    let u = and_parts (few && apart) each r.0 in
    leb-true (length g.vertices) 2048 (and_parts few apart u.0).0

pub asked_of : (s : Setting) (g : Graph) (a : Architecture) (table : Table) → s.vertices.now ≡ g.vertices → s.operators ≡ length a.operators → s.media.now ≡ a.media → s.durations.now ≡ table
    → IsTrue (is_flat g) → IsTrue (is_archi a.operators a.media) → Asked s g a table
asked_of s g a table vertices operators media durations flat archi = record {
  vertices = vertices;
  operators = operators;
  media = media;
  durations = durations;
  flat = flat;
  archi = archi;
  few = few_operations g flat;
}

module _ (s : Setting) (g : Graph) (a : Architecture) (table : Table) (asked : Asked s g a table) where
  pub is_setting : IsSetting s
  is_setting =
      let v = ap length asked.vertices in
      let o = asked.operators in
      let m = ap length asked.media in
      let few = asked.few in
      let operators = few_operators a asked.archi in
      let media = few_media a asked.archi in
      record { operations = omega arith; operators = omega arith; media = omega arith }

  pub decided : (l : Lines) → IsStart l → (ds : List Decision) (x : Schedule) → ds ≡ x.decisions
      → is_valid g a (entry_in table) x ≡ (are_in_line s l (acts_of ds) && list_all (are_fed_from s.vertices.now (acts_of ds)) (range_with_len 0 ((length s.vertices.now + 15) / 16)))
  decided l start ds x same =
      ap (λ (d : List Decision). is_valid g a (entry_in table) (record { decisions = d })) (sym same)
      ∙ checked g a (entry_in table) asked.flat asked.archi asked.few (few_operators a asked.archi) (λ m o y. below a asked.archi m o y) (acts_of ds)
      ∙ (λ i. sym (in_line_same s g a table asked.vertices asked.operators asked.media asked.durations is_setting l [] (acts_of ds)
      (told_at_start s g a table asked.vertices asked.operators asked.media asked.durations is_setting l start)) i
      && list_all (are_fed_from (sym asked.vertices i) (acts_of ds)) (range_with_len 0 ((length (sym asked.vertices i) + 15) / 16)))

  pub then_decided : (l : Lines) → IsStart l → (ds : List Decision) (x : Schedule) → ds ≡ x.decisions → (b f : Bool) → b ≡ are_in_line s l (acts_of ds) → b ≡ true
      → f ≡ list_all (are_fed_from s.vertices.now (acts_of ds)) (range_with_len 0 ((length s.vertices.now + 15) / 16)) → f ≡ is_valid g a (entry_in table) x
  then_decided l start ds x same b f line held fed =
      fed ∙ (λ i. sym (sym line ∙ held) i && list_all (are_fed_from s.vertices.now (acts_of ds)) (range_with_len 0 ((length s.vertices.now + 15) / 16))) ∙ sym (decided l start ds x same)

  pub else_decided : (l : Lines) → IsStart l → (ds : List Decision) (x : Schedule) → ds ≡ x.decisions → (b : Bool) → b ≡ are_in_line s l (acts_of ds) → b ≡ false
      → b ≡ is_valid g a (entry_in table) x
  else_decided l start ds x same b line not_held =
      not_held ∙ (λ i. sym (sym line ∙ not_held) i && list_all (are_fed_from s.vertices.now (acts_of ds)) (range_with_len 0 ((length s.vertices.now + 15) / 16))) ∙ sym (decided l start ds x same)
