-- The outer inputs of a repetition are numbered line by line.
use Rattle.std.proofs.Common.{◌≡◌, ℕ, suc, ◌+◌, ◌*◌, Bool, true, false, not, cond, List, [], ◌∷◌, ◌++◌, length, map, refl, ap, ap₂, sym, subst, ◌∙◌, arith, append_assoc, length-append}
use Rattle.std.specs.Str.{bytes_eq}
use Rattle.std.specs.List.{flat_map, range_with_len}
use Rattle.syn_base.specs.Bytes.{Bytes}
use Rattle.flat_laws.specs.Lines.{outer_of}
use Rattle.algo_laws.specs.declared.Port.{Port}
use Rattle.algo_laws.specs.Well.{IsNewName, AreDistinctNames}
use Rattle.algo_laws.specs.declared.Frontier.{Frontier}
use Rattle.algo_laws.specs.declared.Frontier.TheVariants.{Fork, Diffuse, Iterate, Join}
use Rattle.algo_laws.specs.declared.FrontierLine.{FrontierLine}
use Rattle.algo_laws.specs.Ports.{len_of, number_of, outer_ins}
use Rattle.algo_laws.specs.WellRead.{port_names}
use Rattle.algo_laws.specs.declared.Ports.{Ports}
use Rattle.algo_laws.proofs.Lengths.{turned, same_bytes}
use Rattle.accepted_laws.specs.TextLines.{feeds_by, text_feeds}

-- a line that feeds the body has outer input n, and those after it the next ones
abbrev pub NumbersLine : List Port → ℕ → Frontier → Type 0 → Type 0 → Type 0
NumbersLine ps n (Fork p x) next same = (number_of ps p ≡ n) × next
NumbersLine ps n (Diffuse p x) next same = (number_of ps p ≡ n) × next
NumbersLine ps n (Iterate p x y q) next same = (number_of ps p ≡ n) × next
NumbersLine ps n (Join y q) next same = same

abbrev pub NumbersLines : List Port → ℕ → List FrontierLine → Type 0
NumbersLines ps n [] = Unit {0}
NumbersLines ps n (l ∷ ls) = NumbersLine ps n l.frontier (NumbersLines ps (suc n) ls) (NumbersLines ps n ls)

not_among : (x y : Bytes) (before rest : List Port) (len : ℕ) → IsNewName x (port_names (before ++ record { name = y; len = len } ∷ rest)) → bytes_eq x y ≡ false
not_among x y [] rest len h = h.0
not_among x y (p ∷ before) rest len h = not_among x y before rest len h.1

number_at : (before : List Port) (x : Bytes) (len : ℕ) (rest : List Port) → AreDistinctNames (port_names (before ++ record { name = x; len = len } ∷ rest))
    → number_of (before ++ record { name = x; len = len } ∷ rest) x ≡ length before
number_at [] x len rest h = by (bytes_eq x x) (same_bytes x)
  where
    by : (b : Bool) → b ≡ true → cond (not b) (1 + number_of rest x) 0 ≡ 0
    by true e = refl
    by false e = cc
number_at (p ∷ before) x len rest h = by (bytes_eq x p.name) (turned p.name x (not_among p.name x before rest len h.0)) (number_at before x len rest h.1)
  where
    by : (b : Bool) → b ≡ false → number_of (before ++ record { name = x; len = len } ∷ rest) x ≡ length before
        → cond (not b) (1 + number_of (before ++ record { name = x; len = len } ∷ rest) x) 0 ≡ suc (length before)
    by true e later = cc
    by false e later = omega (arith, later)

module _ (copies : ℕ) (inner : Ports) (own : List Port) where
  one_more : (before : List Port) (p : Port) → length (before ++ p ∷ []) ≡ suc (length before)
  one_more before p = let e = length-append before (p ∷ []) in omega (arith, e)

  -- what stands for one line with an outer input, and for those after it
  here : (before : List Port) (x : Bytes) (len : ℕ) (rest : List Port) → own ≡ before ++ record { name = x; len = len } ∷ rest → AreDistinctNames (port_names own) → number_of own x ≡ length before
  here before x len rest e h =
      ap (λ (ps : List Port). number_of ps x) e ∙ number_at before x len rest (subst (λ (ps : List Port). AreDistinctNames (port_names ps)) e h)

  pub numbers : (ls : List FrontierLine) (before : List Port) → own ≡ before ++ flat_map (λ l. outer_ins copies inner l.frontier) ls
      → AreDistinctNames (port_names own) → NumbersLines own (length before) ls
  numbers [] before e h = tt
  numbers (l ∷ ls) before e h = by l.frontier e (λ b k. numbers ls b k h)
    where
      then : (x : Bytes) (len : ℕ) → own ≡ before ++ record { name = x; len = len } ∷ flat_map (λ l. outer_ins copies inner l.frontier) ls
          → ((b : List Port) → own ≡ b ++ flat_map (λ l. outer_ins copies inner l.frontier) ls → NumbersLines own (length b) ls)
          → (number_of own x ≡ length before) × NumbersLines own (suc (length before)) ls
      then x len k go = (
        here before x len (flat_map (λ l. outer_ins copies inner l.frontier) ls) k h,
        subst (λ (n : ℕ). NumbersLines own n ls) (one_more before (record { name = x; len = len }))
            (go (before ++ record { name = x; len = len } ∷ []) (k ∙ sym (append_assoc before (record { name = x; len = len } ∷ []) (flat_map (λ l. outer_ins copies inner l.frontier) ls)))),
      )

      by : (f : Frontier) → own ≡ before ++ (outer_ins copies inner f ++ flat_map (λ l. outer_ins copies inner l.frontier) ls)
          → ((b : List Port) → own ≡ b ++ flat_map (λ l. outer_ins copies inner l.frontier) ls → NumbersLines own (length b) ls)
          → NumbersLine own (length before) f (NumbersLines own (suc (length before)) ls) (NumbersLines own (length before) ls)
      by (Fork p x) k go = then p (copies * len_of inner.ins x) k go
      by (Diffuse p x) k go = then p (len_of inner.ins x) k go
      by (Iterate p x y q) k go = then p (len_of inner.ins x) k go
      by (Join y q) k go = go before k

-- the outer inputs of the lines of a text
pub outer_numbers : (inner own : Ports) (n : ℕ) (ls : List FrontierLine) → NumbersLines own.ins n ls → map outer_of (text_feeds inner own ls) ≡ range_with_len n (length (text_feeds inner own ls))
outer_numbers inner own n [] h = refl
outer_numbers inner own n (l ∷ ls) h = by l.frontier h (λ m k. outer_numbers inner own m ls k)
  where
    first : (k : ℕ) → k ≡ n → map outer_of (text_feeds inner own ls) ≡ range_with_len (suc n) (length (text_feeds inner own ls))
        → k ∷ map outer_of (text_feeds inner own ls) ≡ n ∷ range_with_len (n + 1) (length (text_feeds inner own ls))
    first k e rest = ap₂ (λ (a : ℕ) (rest_of : List ℕ). a ∷ rest_of) e (rest ∙ ap (λ (m : ℕ). range_with_len m (length (text_feeds inner own ls))) (let next : suc n ≡ n + 1 = omega arith in next))

    by : (f : Frontier) → NumbersLine own.ins n f (NumbersLines own.ins (suc n) ls) (NumbersLines own.ins n ls)
        → ((m : ℕ) → NumbersLines own.ins m ls → map outer_of (text_feeds inner own ls) ≡ range_with_len m (length (text_feeds inner own ls)))
        → map outer_of (feeds_by inner own f ++ text_feeds inner own ls) ≡ range_with_len n (length (feeds_by inner own f ++ text_feeds inner own ls))
    by (Fork p x) k go = first (number_of own.ins p) k.0 (go (suc n) k.1)
    by (Diffuse p x) k go = first (number_of own.ins p) k.0 (go (suc n) k.1)
    by (Iterate p x y q) k go = first (number_of own.ins p) k.0 (go (suc n) k.1)
    by (Join y q) k go = go n k
