-- The ports of each definition have lengths within the bounds, and its inputs distinct names.
use Rattle.std.proofs.Common.{◌≡◌, ℕ, zero, suc, ◌≤◌, List, [], ◌∷◌, Some, None, sym, subst, arith}
use Rattle.syn_base.specs.Bytes.{Bytes}
use Rattle.algo_rules.specs.Well.{AreDistinctNames}
use Rattle.algo_rules.specs.Typed.{AreLengths}
use Rattle.algo_rules.specs.declared.Def.{Def}
use Rattle.algo_rules.specs.declared.Body.{Body}
use Rattle.algo_rules.specs.declared.Body.TheVariants.{Sensor, Actuator, Constant, Delay, Function, Graph, Switch, Repeat}
use Rattle.algo_rules.specs.Links.{Mention, mentions, mentions_in, definition}
use Rattle.algo_rules.specs.Ports.{lens_of, ports_by, ports_of}
use Rattle.algo_rules.specs.declared.ports.Ports.{Ports}
use Rattle.algo_rules.specs.Resolved.{body_fault}
use Rattle.algo_rules.specs.WellRead.{IsWellRead, port_names, ports_in}
use Rattle.algo_laws.proofs.Firsts.{Each}
use Rattle.algo_laws.specs.Depths.{rank}
use Rattle.algo_laws.proofs.Lengths.{sized, distinct_append}
use Rattle.algo_laws.proofs.Frontiers.{repeat_fits, ins_sized, outs_sized, ins_distinct}
use Rattle.algo_laws.proofs.Accepted.{IsLower, Accepted, own_ports}

pub record AreFine (p : Ports) : Type 0 where
  pub ins : AreLengths (lens_of p.ins)
  pub outs : AreLengths (lens_of p.outs)
  pub distinct : AreDistinctNames (port_names p.ins)

module _ (ds : List Def) where
  fine_by : (n : ℕ) (b : Body) → IsWellRead b → body_fault ds n b ≡ None → Each (λ m. AreFine (ports_of ds m.def)) (mentions_in n b) → AreFine (ports_by (ports_of ds) b)
  fine_by n (Sensor len) read none h = record { ins = tt; outs = (read, tt); distinct = tt }
  fine_by n (Actuator len) read none h = record { ins = (read, tt); outs = tt; distinct = (tt, tt) }
  fine_by n (Constant values) read none h = record { ins = tt; outs = (read, tt); distinct = tt }
  fine_by n (Delay depth values) read none h = record { ins = (read.sized, tt); outs = (read.sized, tt); distinct = (tt, tt) }
  fine_by n (Function ins outs) read none h =
      record { ins = sized ins read.inputs.sized; outs = sized (ports_in outs) read.outputs.sized; distinct = (distinct_append (port_names ins) (port_names (ports_in outs)) read.distinct).0 }
  fine_by n (Graph ins outs references edges) read none h =
      record { ins = sized ins read.inputs.sized; outs = sized outs read.outputs.sized; distinct = (distinct_append (port_names ins) (port_names outs) read.distinct).0 }
  fine_by n (Switch on ins outs cases otherwise last) read none h =
      record {
        ins = ((omega arith, omega arith), sized ins read.inputs.sized);
        outs = sized outs read.outputs.sized;
        distinct =
            (distinct_append (on ∷ port_names ins) (port_names outs) read.distinct).0;
      }
  fine_by n (Repeat copies def lines) read none h =
      let fits = repeat_fits copies (ports_of ds def) n lines none in
      record {
        ins = ins_sized copies (ports_of ds def) read.some h.0.ins lines fits.lines;
        outs = outs_sized copies (ports_of ds def) read.some h.0.outs lines fits.lines;
        distinct = ins_distinct copies (ports_of ds def) lines read.distinct;
      }

  each_fine : (n m : ℕ) → m ≤ suc n → ((w : Bytes) (d : Def) → definition ds w ≡ Some d → rank ds w ≤ n → AreFine (ports_of ds w))
      → (ms : List Mention) → Each (λ x. IsLower ds m x.def) ms → Each (λ x. AreFine (ports_of ds x.def)) ms
  each_fine n m le ih [] h = tt
  each_fine n m le ih (x ∷ ms) h = (ih x.def h.0.0.0 h.0.0.1 (omega (arith, h.0.1)), each_fine n m le ih ms h.1)

fine_within : (ds : List Def) → Accepted ds → (n : ℕ) (w : Bytes) (d : Def) → definition ds w ≡ Some d → rank ds w ≤ n → AreFine (ports_of ds w)
fine_within ds a zero w d e le = absurd (omega (arith, a.ranked.positive w d e))
fine_within ds a (suc n) w d e le =
    subst AreFine (sym (own_ports ds a.ranked w d e))
    (fine_by ds d.line d.body (a.well_read w d e) (a.passed w d e) (each_fine ds n (rank ds w) le (λ v x f k. fine_within ds a n v x f k) (mentions d) (a.ranked.lower w d e)))

pub fine : (ds : List Def) → Accepted ds → (w : Bytes) (d : Def) → definition ds w ≡ Some d → AreFine (ports_of ds w)
fine ds a w d e = fine_within ds a 8 w d e (a.ranked.most w d e)
