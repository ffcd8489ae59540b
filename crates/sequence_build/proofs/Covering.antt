-- What a valid schedule gives the code: every copy is of an output on an operator, and every buffer is written once.
use Rattle.std.proofs.Common.{◌≡◌, ℕ, zero, suc, ◌<◌, ◌≤◌, true, ◌&&◌, [], length, Option, Some, refl, sym, ap, arith, ◌∙◌}
use Rattle.std.specs.Prelude.{slice_get, nat_le}
use Rattle.std.specs.List.{list_all}
use Rattle.std.proofs.lemmas.Bool.{and_parts, leb-true}
use Rattle.std.proofs.lemmas.Option.{same_Some, slice_get_within}
use Rattle.sequence_build_laws.specs.declared.Vertex.{Vertex}
use Rattle.sequence_build_laws.specs.Graph.{Graph, lens_of}
use Rattle.sequence_build_laws.specs.FlatOrder.{is_acyclic}
use Rattle.sequence_build_laws.specs.FlatValid.{is_flat, is_vertex, is_path, is_len, is_guard, fits, has_twin, are_named_apart, all_from, sensors_from, actuators_from, kinds_of}
use Rattle.sequence_build_laws.proofs.Facts.{vertex_valid}
use Rattle.sequence_build_laws.specs.Archi.{Architecture, is_archi, is_medium, are_bounded, are_distinct, names_of, are_joined, connections_in}
use Rattle.sequence_build_laws.specs.Sequences.{sequences}
use Rattle.sequence_build_laws.specs.declared.Schedule.{Schedule}
use Rattle.sequence_build_laws.specs.Acts.{Act, carry, run, acts, Copy, copy, outputs_of, made_by}
use Rattle.sequence_build_laws.specs.ScheduleValid.{is_valid}
use Rattle.sequence_build_laws.specs.declared.Buffer.{Buffer}
use Rattle.sequence_build_laws.specs.Instructions.{turn_of}
use Rattle.sequence_build_laws.specs.WellFormed.{Stands}
use Rattle.sequence_build_laws.proofs.Reading.{writes_of}
use Rattle.sequence_build_laws.specs.Serial.{copies, buffer, plain_steps, plain_program}
use Rattle.sequence_build_laws.proofs.Lists.{in_flat, from_map}
use Rattle.sequence_build_laws.proofs.Loops as loops
use Rattle.sequence_build_laws.proofs.Sequences.{stands_low}
use Rattle.sequence_build_laws.proofs.Steps.{setting, written_once}
use Rattle.sequence_build_laws.proofs.Works.{of_transfer, of_run, origin, output_of}
use Rattle.sequence_build.specs.Numbers.{AreCovered}
use Rattle.sequence_build.proofs.Pairing.{WritesOnce}
use Rattle.sequence_build.proofs.Deepening.{AreSingle}

pub few_operations : (g : Graph) → is_flat g ≡ true → length g.vertices ≤ 2048
few_operations g h =
    let acyclic = and_parts _ (is_acyclic g.vertices) h in
    let actuators = and_parts _ (actuators_from 0 (kinds_of g.vertices)) acyclic.0 in
    let sensors = and_parts _ (sensors_from 0 (kinds_of g.vertices)) actuators.0 in
    let all = and_parts _ (all_from (is_vertex g) 0 g.vertices) sensors.0 in
    let named = and_parts (nat_le (length g.vertices) 2048) (are_named_apart g.vertices) all.0 in
    leb-true (length g.vertices) 2048 named.0

few_outputs : (g : Graph) (v : ℕ) (x : Vertex) → is_vertex g v x ≡ true → length x.outs ≤ 64
few_outputs g v x h =
    let twin = and_parts _ (has_twin g.vertices v x.kind x.twin) h in
    let fit = and_parts _ (fits g.bodies x.kind (lens_of g.vertices x.ins) x.outs) twin.0 in
    let ins = and_parts _ (list_all (nat_le 1) (lens_of g.vertices x.ins)) fit.0 in
    let guards = and_parts _ (list_all (is_guard g.vertices) x.guards) ins.0 in
    let outs = and_parts (is_path x.name) (nat_le (length x.outs) 64 && list_all is_len x.outs) guards.0 in
    leb-true (length x.outs) 64 (and_parts (nat_le (length x.outs) 64) (list_all is_len x.outs) outs.1).0

few_operators : (a : Architecture) → is_archi a.operators a.media ≡ true → length a.operators ≤ 16
few_operators a h =
    let joined = and_parts _ (are_joined (length a.operators) a.media) h in
    let distinct = and_parts _ (are_distinct (names_of a.operators a.media)) joined.0 in
    let media = and_parts (are_bounded a.operators a.media) (list_all (is_medium (length a.operators)) a.media) distinct.0 in
    let stands = and_parts _ (nat_le (connections_in a.media) 64) media.0 in
    let many = and_parts _ (nat_le (length a.media) 16) stands.0 in
    leb-true (length a.operators) 16 (and_parts (nat_le 1 (length a.operators)) (nat_le (length a.operators) 16) many.0).1

module _ (g : Graph) (a : Architecture) (ticks : ℕ → ℕ → Option ℕ) (s : Schedule) (flat : is_flat g ≡ true) (right : is_archi a.operators a.media ≡ true) (valid : is_valid g a ticks s ≡ true) where
  operator_low : (i h : ℕ) (x : Act) (c : Copy) → slice_get (acts s) i ≡ Some x → slice_get (made_by g.vertices x) h ≡ Some c → c.operator < length a.operators
  operator_low i zero (carry t) c e m =
      let o = of_transfer g a ticks s valid i t e in
      let l = stands_low a right t.medium t.to o.medium o.there o.to in
      let z = ap (λ (y : Copy). y.operator) (same_Some (copy t.to t.source) c m) in omega arith
  operator_low i (suc h) (carry t) c e m = absurd cc
  operator_low i h (run d) c e m =
      let r = from_map (copy d.operator) (outputs_of d.op (slice_get g.vertices d.op)) h c m in
      let l = (of_run g a ticks s valid i d e).low in
      let z = ap (λ (y : Copy). y.operator) r.is in omega arith

  pub covered : AreCovered (length g.vertices) (copies g a s)
  covered k c e =
      let f = in_flat (made_by g.vertices) (acts s) k c e in
      let o = origin g a ticks s valid f.at f.inner f.it c f.is_it f.stands in
      let x = output_of o.it.op (slice_get g.vertices o.it.op) o.output c.source o.is in
      let vertex : Vertex = x.2 in
      let low = slice_get_within g.vertices o.it.op vertex x.3 in
      let few = few_outputs g o.it.op vertex (vertex_valid g flat o.it.op vertex x.3) in
      let port = slice_get_within vertex.outs o.output x.4 x.5 in
      let is_vertex : c.source.vertex ≡ o.it.op = x.0 in
      let is_port : c.source.port ≡ o.output = x.1 in
      let l = operator_low f.at f.inner f.it c f.is_it f.stands in
      let n = few_operators a right in
      record { vertex = omega arith; port = omega arith; operator = omega arith }

  pub once : WritesOnce (plain_program g a s).seqs
  once b u m t n q r x y e h d k v w =
      let S = setting g a ticks s right valid 1 in
      let p = plain_program g a s in
      let here : Stands p u m x = ap (λ o. slice_get (turn_of o) m) e ∙ h in
      let there : Stands p t n y = ap (λ o. slice_get (turn_of o) n) d ∙ k in
      let first = loops.found p (plain_steps g a s) (λ _. []) (sequences a) refl S.low u m x here in
      let second = loops.found p (plain_steps g a s) (λ _. []) (sequences a) refl S.low t n y there in
      let i = writes_of b x v in
      let j = writes_of b y w in
      let same = written_once g a ticks s right valid first.at second.at i.0 j.0 b _ _ first.stands second.stands i.1 j.1 in
      loops.same_place p (plain_steps g a s) (λ _. []) (sequences a) refl S.low u m t n x y first second same.0

  pub single : AreSingle (plain_program g a s).buffers
  single j x e = let m = from_map (buffer g a s 1) (copies g a s) j x e in ap (λ (b : Buffer). b.depth) (sym m.is)
