-- The cases of a switch whose checks have no fault.
use Rattle.std.proofs.Common.{◌≡◌, ℕ, zero, suc, ◌+◌, Bool, true, false, not, ◌&&◌, List, [], ◌∷◌, ◌++◌, map, length, get_or, None, refl, ap₂, subst, arith, if◌then◌else◌, ℤ}
use Rattle.std.specs.Prelude.{◌==◌}
use Rattle.std.specs.Str.{bytes_eq}
use Rattle.std.proofs.lemmas.Bool.{eqb-true}
use Rattle.syn_base.specs.Bytes.{Bytes}
use Rattle.algo_rules.specs.declared.Port.{Port}
use Rattle.algo_rules.specs.Typed.{source_length}
use Rattle.algo_rules.specs.Well.{AreOwn}
use Rattle.algo_rules.specs.declared.Case.{Case}
use Rattle.algo_rules.specs.declared.AlgoCause.TheVariants.{BadCase}
use Rattle.algo_rules.specs.Links.{fault, first_of}
use Rattle.algo_rules.specs.Ports.{lens_of, same_ports}
use Rattle.algo_rules.specs.Frontiers.{fits, has_value, case_fault, case_faults, switch_fault}
use Rattle.algo_rules.specs.Resolved.{owns}
use Rattle.algo_rules.specs.declared.ports.Ports.{Ports}
use Rattle.algo_laws.proofs.Firsts.{Each, none_both}
use Rattle.algo_laws.proofs.Standing.{both}

pub same_lens : (ps qs : List Port) → same_ports ps qs ≡ true → lens_of ps ≡ lens_of qs
same_lens [] [] h = refl
same_lens [] (q ∷ qs) h = cc
same_lens (p ∷ ps) [] h = cc
same_lens (p ∷ ps) (q ∷ qs) h =
    let two = both (bytes_eq p.name q.name && (p.len == q.len)) (same_ports ps qs) h in
    let one = both (bytes_eq p.name q.name) (p.len == q.len) two.0 in
    ap₂ (λ (n : ℕ) (ns : List ℕ). n ∷ ns) (eqb-true p.len q.len one.1) (same_lens ps qs two.1)

module _ (of : Bytes → Ports) (ins outs : List Port) where
  -- the lengths of the ports of a case are those of the switch
  abbrev pub IsAlike : Bytes → Type 0
  IsAlike w = (lens_of (of w).ins ≡ lens_of ins) × (lens_of (of w).outs ≡ lens_of outs)

  alike : (w : Bytes) → fits ins outs (of w) ≡ true → IsAlike w
  alike w h = let two = both (same_ports (of w).ins ins) (same_ports (of w).outs outs) h in (same_lens (of w).ins ins two.0, same_lens (of w).outs outs two.1)

  passed : (b : Bool) (n : ℕ) → (if b then None else fault n BadCase) ≡ None → b ≡ true
  passed true n h = refl
  passed false n h = cc

  all_alike : (before : List ℤ) (cs : List Case) (otherwise : Bytes) (last : ℕ)
      → first_of (case_faults of ins outs before cs ++ (if fits ins outs (of otherwise) then None else fault last BadCase) ∷ []) ≡ None
      → Each IsAlike (map (λ c. c.def) cs ++ otherwise ∷ [])
  all_alike before [] otherwise last h =
      let one = none_both (if fits ins outs (of otherwise) then None else fault last BadCase) [] h in
      (alike otherwise (passed (fits ins outs (of otherwise)) last one.0), tt)
  all_alike before (c ∷ cs) otherwise last h =
      let two = none_both (case_fault of ins outs before c) (case_faults of ins outs (before ++ c.value ∷ []) cs ++ (if fits ins outs (of otherwise) then None else fault last BadCase) ∷ []) h in
      let one = both (not (has_value before c.value)) (fits ins outs (of c.def)) (passed (not (has_value before c.value) && fits ins outs (of c.def)) c.line two.0) in
      (alike c.def one.1, all_alike (before ++ c.value ∷ []) cs otherwise last two.1)

  pub switch_fits : (cases : List Case) (otherwise : Bytes) (last : ℕ) → switch_fault of ins outs cases otherwise last ≡ None → Each IsAlike (map (λ c. c.def) cases ++ otherwise ∷ [])
  switch_fits cases otherwise last h = all_alike [] cases otherwise last h

-- sources that are the own inputs from a place on have their lengths
reads : (ms : List ℕ) (a : ℕ) (ps : List Port) → ((k : ℕ) → get_or ms (a + k) 0 ≡ get_or (lens_of ps) k 0) → map (source_length ms []) (owns a (length ps)) ≡ lens_of ps
reads ms a [] h = refl
reads ms a (p ∷ ps) h =
    let first : a + 0 ≡ a = omega arith in
    ap₂ (λ (n : ℕ) (ns : List ℕ). n ∷ ns) (subst (λ (k : ℕ). get_or ms k 0 ≡ p.len) first (h 0))
    (reads ms (a + 1) ps (λ k. let next : a + suc k ≡ (a + 1) + k = omega arith in subst (λ (j : ℕ). get_or ms j 0 ≡ get_or (lens_of ps) k 0) next (h (suc k))))

-- after the conditioning input
pub case_lengths : (n : ℕ) (ps : List Port) → map (source_length (n ∷ lens_of ps) []) (owns 1 (length ps)) ≡ lens_of ps
case_lengths n ps = reads (n ∷ lens_of ps) 1 ps (λ k. let next : 1 + k ≡ suc k = omega arith in rw next refl)

pub all_own : (a n : ℕ) → AreOwn (owns a n)
all_own a zero = tt
all_own a (suc n) = (tt, all_own (a + 1) n)
