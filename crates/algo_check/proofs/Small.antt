-- Ports of repetitions that have passed their check.
use Rattle.std.proofs.Common.{
  ◌≡◌,
  ℕ,
  zero,
  suc,
  ◌≤◌,
  Bool,
  true,
  false,
  ◌&&◌,
  ◌==◌,
  List,
  [],
  ◌∷◌,
  ◌++◌,
  length,
  Option,
  Some,
  None,
  if◌then◌else◌,
  arith,
  nat_lt,
  refl,
  sym,
  subst,
  Result,
  Ok,
  Err,
  IfOk,
}
use Rattle.std.specs.List.{flat_map}
use Rattle.std.proofs.lemmas.Bool.{eqb-true, ltb-false}
use Rattle.std.proofs.lemmas.List.{length-append}
use Rattle.std.proofs.lemmas.List.Elements.{All-append}
use Rattle.syn_base.specs.Bytes.{Bytes}
use Rattle.algo_rules.specs.declared.Port.{Port}
use Rattle.algo_rules.specs.declared.Def.{Def}
use Rattle.algo_rules.specs.declared.Body.{Body}
use Rattle.algo_rules.specs.declared.Body.TheVariants.{Repeat}
use Rattle.algo_rules.specs.declared.Frontier.{Frontier}
use Rattle.algo_rules.specs.declared.Frontier.TheVariants.{Fork, Diffuse, Iterate, Join}
use Rattle.algo_rules.specs.declared.FrontierLine.{FrontierLine}
use Rattle.algo_rules.specs.declared.AlgoCause.TheVariants.{BadRepeat}
use Rattle.algo_rules.specs.Links.{fault, first_of}
use Rattle.algo_rules.specs.Frontiers.{too_long, used_by, is_open, frontier_fault, frontier_faults, repeat_fault, unfed}
use Rattle.algo_rules.specs.Ports.{has_port, len_of, one_port, outer_ins, outer_outs, outer_ports, ports_by, ports_of}
use Rattle.algo_rules.specs.Resolved.{body_fault}
use Rattle.algo_rules.specs.WellRead.{IsWellRead}
use Rattle.algo_rules.specs.declared.ports.Ports.{Ports}
use Rattle.body_check.specs.Bounds.{AreShort}
use Rattle.algo_rules.specs.Refusals.{AlgoRefusal}
use Rattle.algo_check.specs.Tables.{IsSmall}
use Rattle.algo_check.proofs.InOrder.{both_none}

short_by : (n : ℕ) (e : AlgoRefusal) (b : Bool) → nat_lt 64 n ≡ b → (if b then Some e else None) ≡ None → n ≤ 64
short_by n e true is h = cc
short_by n e false is h = ltb-false 64 n is

short : (n : ℕ) → too_long n ≡ None → n ≤ 64
short n h = short_by n _ (nat_lt 64 n) refl h

passes : (b : Bool) (n line : ℕ) → (if b then too_long n else fault line BadRepeat) ≡ None → n ≤ 64
passes true n line h = short n h
passes false n line h = cc

no_port : AreShort []
no_port k d low = absurd (omega (arith, low))

one : (w : Bytes) (n : ℕ) → n ≤ 64 → AreShort (one_port w n)
one w n h zero d low = h
one w n h (suc k) d low = absurd (omega (arith, low))

module _ (copies : ℕ) (inner : Ports) where
  line_short : (used : List Bytes) (line : ℕ) (f : Frontier) → frontier_fault copies inner used line f ≡ None → AreShort (outer_ins copies inner f) × AreShort (outer_outs copies inner f)
  line_short used line (Fork p x) h = (one p _ (passes (is_open copies inner used x) _ line h), no_port)
  line_short used line (Diffuse p x) h = (one p _ (passes (is_open copies inner used x) _ line h), no_port)
  line_short used line (Iterate p x y q) h = by (is_open copies inner used x) (has_port inner.outs y) (len_of inner.ins x == len_of inner.outs y) refl h
    where
      by : (a b c : Bool) → (len_of inner.ins x == len_of inner.outs y) ≡ c → (if a && (b && c) then too_long (len_of inner.ins x) else fault line BadRepeat) ≡ None
          → AreShort (one_port p (len_of inner.ins x)) × AreShort (one_port q (len_of inner.outs y))
      by true true true is h =
          let low = short (len_of inner.ins x) h in
          let same : len_of inner.ins x ≡ len_of inner.outs y = eqb-true (len_of inner.ins x) (len_of inner.outs y) is in
          (one p _ low, one q _ (omega (arith, low, same)))
      by true true false is h = cc
      by true false c is h = cc
      by false b c is h = cc
  line_short used line (Join y q) h = (no_port, one q _ (passes (has_port inner.outs y) _ line h))

  lines_short : (used : List Bytes) (ls : List FrontierLine) (rest : List (Option AlgoRefusal)) → first_of (frontier_faults copies inner used ls ++ rest) ≡ None
      → AreShort (flat_map (λ l. outer_ins copies inner l.frontier) ls) × AreShort (flat_map (λ l. outer_outs copies inner l.frontier) ls)
  lines_short used [] rest h = (no_port, no_port)
  lines_short used (l ∷ ls) rest h =
      let both = both_none (frontier_fault copies inner used l.line l.frontier) (frontier_faults copies inner (used ++ used_by l.frontier) ls ++ rest) h in
      let here = line_short used l.line l.frontier both.0 in
      let there = lines_short (used ++ used_by l.frontier) ls rest both.1 in
      (All-append (λ (x : Port). x.len ≤ 64) _ _ here.0 there.0, All-append (λ (x : Port). x.len ≤ 64) _ _ here.1 there.1)

  one_in : (f : Frontier) → length (outer_ins copies inner f) ≤ 1
  one_in (Fork p x) = omega arith
  one_in (Diffuse p x) = omega arith
  one_in (Iterate p x y q) = omega arith
  one_in (Join y q) = omega arith

  one_out : (f : Frontier) → length (outer_outs copies inner f) ≤ 1
  one_out (Fork p x) = omega arith
  one_out (Diffuse p x) = omega arith
  one_out (Iterate p x y q) = omega arith
  one_out (Join y q) = omega arith

  few : (f : FrontierLine → List Port) → ((l : FrontierLine) → length (f l) ≤ 1) → (ls : List FrontierLine) → length (flat_map f ls) ≤ length ls
  few f h [] = omega arith
  few f h (l ∷ ls) = omega (arith, length-append (f l) (flat_map f ls), h l, few f h ls)

  -- a repetition of at most 64 lines without a fault
  pub repeat_small : (line : ℕ) (ls : List FrontierLine) → length ls ≤ 64 → repeat_fault copies inner line ls ≡ None → IsSmall (outer_ports copies inner ls)
  repeat_small line ls h none = record {
    short = lines_short [] ls (unfed copies inner line ls ∷ []) none;
    ins = let n = few (λ l. outer_ins copies inner l.frontier) (λ l. one_in l.frontier) ls in omega (arith, n, h);
    outs = let n = few (λ l. outer_outs copies inner l.frontier) (λ l. one_out l.frontier) ls in omega (arith, n, h);
  }

module _ (ds : List Def) (line : ℕ) (inner : Ports) where
  pub body_small : (b : Body) (copies : ℕ) (def : Bytes) (ls : List FrontierLine) → b ≡ Repeat copies def ls → inner ≡ ports_of ds def
      → IsWellRead b → body_fault ds line b ≡ None → IsSmall (ports_by (λ w. inner) b)
  body_small b copies def ls is same read none =
      let of_repeat : IsWellRead (Repeat copies def ls) → body_fault ds line (Repeat copies def ls) ≡ None → IsSmall (outer_ports copies inner ls)
      = λ r n. subst (λ (p : Ports). IsSmall (outer_ports copies p ls)) (sym same) (repeat_small copies (ports_of ds def) line ls r.few n) in
      subst (λ (c : Body). IsWellRead c → body_fault ds line c ≡ None → IsSmall (ports_by (λ w. inner) c)) (sym is) of_repeat read none

pub small_result : {E : Type 0} (r : Result Ports E) (x : Ports) → IfOk r (λ p. p ≡ x) → IsSmall x → IfOk r IsSmall
small_result (Ok p) x is small = subst IsSmall (sym is) small
small_result (Err e) x is small = tt
