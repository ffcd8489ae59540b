-- The lengths and the names of ports.
use Rattle.std.proofs.Common.{◌≡◌, ℕ, suc, ◌+◌, Bool, true, false, not, cond, ◌||◌, List, [], ◌∷◌, ◌++◌, get_or, Some, refl, ◌∙◌, arith, if◌then◌else◌}
use Rattle.std.specs.Str.{bytes_eq}
use Rattle.std.specs.List.{All}
use Rattle.std.proofs.lemmas.Cmp.{nat_list_eq_equiv}
use Rattle.std.proofs.lemmas.Slice.Eq.{bytes_eq-Decides}
use Rattle.syn_base.specs.Bytes.{Bytes}
use Rattle.algo_rules.specs.declared.Port.{Port}
use Rattle.algo_rules.specs.Well.{IsNewName, AreDistinctNames}
use Rattle.algo_rules.specs.Typed.{IsLength, AreLengths}
use Rattle.algo_rules.specs.Ports.{has_port, len_of, number_of, lens_of}
use Rattle.algo_rules.specs.Graphs.{port_len}
use Rattle.algo_rules.specs.WellRead.{port_names}
use Rattle.algo_laws.proofs.Firsts.{Each}

pub turned : (x y : Bytes) → bytes_eq x y ≡ false → bytes_eq y x ≡ false
turned x y h = nat_list_eq_equiv.symm y x ∙ h

pub same_bytes : (w : Bytes) → bytes_eq w w ≡ true
same_bytes w = (bytes_eq-Decides w w).1 refl

-- the length at the number of a port
pub len_at : (ps : List Port) (w : Bytes) → get_or (lens_of ps) (number_of ps w) 0 ≡ len_of ps w
len_at [] w = refl
len_at (p ∷ ps) w = by (len_at ps w) (bytes_eq w p.name)
  where
    by : get_or (lens_of ps) (number_of ps w) 0 ≡ len_of ps w → (b : Bool) → get_or (lens_of (p ∷ ps)) (cond (not b) (1 + number_of ps w) 0) 0 ≡ (if b then p.len else len_of ps w)
    by rest true = refl
    by rest false = let next : 1 + number_of ps w ≡ suc (number_of ps w) = omega arith in rw next rest

pub len_is : (ps : List Port) (w : Bytes) (n : ℕ) → port_len ps w ≡ Some n → len_of ps w ≡ n
len_is [] w n h = cc
len_is (p ∷ ps) w n h = by (λ k. len_is ps w n k) (bytes_eq w p.name) h
  where
    by : (port_len ps w ≡ Some n → len_of ps w ≡ n) → (b : Bool) → (if b then Some p.len else port_len ps w) ≡ Some n → (if b then p.len else len_of ps w) ≡ n
    by rest true k = cc
    by rest false k = rest k

-- ports with distinct names are found by them
abbrev pub IsFound : List Port → Port → Type 0
IsFound ps p = port_len ps p.name ≡ Some p.len

behind : (p : Port) (ps qs : List Port) → IsNewName p.name (port_names qs) → Each (IsFound ps) qs → Each (IsFound (p ∷ ps)) qs
behind p ps [] new h = tt
behind p ps (q ∷ qs) new h = (by (bytes_eq q.name p.name) (turned p.name q.name new.0), behind p ps qs new.1 h.1)
  where
    by : (b : Bool) → b ≡ false → (if b then Some p.len else port_len ps q.name) ≡ Some q.len
    by true e = cc
    by false e = h.0

pub all_found : (ps : List Port) → AreDistinctNames (port_names ps) → Each (IsFound ps) ps
all_found [] h = tt
all_found (p ∷ ps) h = (by (bytes_eq p.name p.name) (same_bytes p.name), behind p ps ps h.0 (all_found ps h.1))
  where
    by : (b : Bool) → b ≡ true → (if b then Some p.len else port_len ps p.name) ≡ Some p.len
    by true e = refl
    by false e = cc

-- lengths
pub sized : (ps : List Port) → All (λ p. IsLength p.len) ps → AreLengths (lens_of ps)
sized [] h = tt
sized (p ∷ ps) h = (h 0 p (omega arith), sized ps (λ k d lt. h (suc k) d (omega arith)))

pub len_sized : (ps : List Port) (w : Bytes) → AreLengths (lens_of ps) → has_port ps w ≡ true → IsLength (len_of ps w)
len_sized [] w h k = cc
len_sized (p ∷ ps) w h k = by (λ j. len_sized ps w h.1 j) (bytes_eq w p.name) k
  where
    by : (has_port ps w ≡ true → IsLength (len_of ps w)) → (b : Bool) → (b || has_port ps w) ≡ true → IsLength (if b then p.len else len_of ps w)
    by rest true j = h.0
    by rest false j = rest j

-- names
pub new_append : (v : Bytes) (xs ys : List Bytes) → IsNewName v (xs ++ ys) → IsNewName v xs × IsNewName v ys
new_append v [] ys h = (tt, h)
new_append v (x ∷ xs) ys h = let rest = new_append v xs ys h.1 in ((h.0, rest.0), rest.1)

pub distinct_append : (xs ys : List Bytes) → AreDistinctNames (xs ++ ys) → AreDistinctNames xs × AreDistinctNames ys
distinct_append [] ys h = (tt, h)
distinct_append (x ∷ xs) ys h = let rest = distinct_append xs ys h.1 in (((new_append x xs ys h.0).0, rest.0), rest.1)

pub join_new : (v : Bytes) (xs ys : List Bytes) → IsNewName v xs → IsNewName v ys → IsNewName v (xs ++ ys)
join_new v [] ys h k = k
join_new v (x ∷ xs) ys h k = (h.0, join_new v xs ys h.1 k)
