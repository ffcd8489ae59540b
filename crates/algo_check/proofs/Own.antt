-- Each definition is that of its own name, so that a table which is filled has the ports of all.
use Rattle.std.proofs.Common.{◌≡◌, ℕ, zero, suc, ◌<◌, ◌≤◌, Bool, true, false, List, [], ◌∷◌, length, get_or, map, Option, Some, None, if◌then◌else◌, refl, ap, ap₂, subst, ◌∙◌, arith}
use Rattle.std.specs.Prelude.{slice_get, replicate, nat_lt}
use Rattle.std.specs.List.{All}
use Rattle.std.specs.Str.{bytes_eq}
use Rattle.std.proofs.lemmas.Bool.{ltb-false}
use Rattle.std.proofs.lemmas.List.FromFn.{length-map-range_with_len}
use Rattle.std.proofs.lemmas.Cmp.{nat_list_eq_equiv}
use Rattle.syn_base.specs.Bytes.{Bytes}
use Rattle.algo_rules.specs.Refusals.{AlgoRefusal}
use Rattle.algo_rules.specs.declared.Def.{Def}
use Rattle.algo_rules.specs.Well.{AreDistinctNames, IsNewName}
use Rattle.algo_rules.specs.ReferenceLinks.{depths}
use Rattle.algo_rules.specs.Links.{definition, links_of, too_deep, too_deep_by}
use Rattle.algo_rules.specs.Ports.{no_ports, ports_of}
use Rattle.algo_rules.specs.declared.ports.Ports.{Ports}
use Rattle.algo_check.specs.Placing.{names_of}
use Rattle.algo_check.specs.Tables.{IsSmall, IsTable}
use Rattle.algo_check.proofs.Inside.{links_count}
use Rattle.algo_check.proofs.Stands.{deep}
use Rattle.algo_check.proofs.ByDepth.{deep_at}

turned : (x y : Bytes) → bytes_eq x y ≡ false → bytes_eq y x ≡ false
turned x y h = nat_list_eq_equiv.symm y x ∙ h

new_at : (w : Bytes) (ds : List Def) (i : ℕ) (d : Def) → IsNewName w (names_of ds) → slice_get ds i ≡ Some d → bytes_eq w d.name ≡ false
new_at w [] i d h at = cc
new_at w (e ∷ ds) zero d h at = let same : e ≡ d = cc in subst (λ (x : Def). bytes_eq w x.name ≡ false) same h.0
new_at w (e ∷ ds) (suc i) d h at = new_at w ds i d h.1 at

pub own : (ds : List Def) (i : ℕ) (d : Def) → AreDistinctNames (names_of ds) → slice_get ds i ≡ Some d → definition ds d.name ≡ slice_get ds i
own [] i d h at = cc
own (e ∷ ds) zero d h at =
    let same : e ≡ d = cc in
    ap (λ (b : Bool). if b then Some e else definition ds d.name) (ap (λ (x : Def). bytes_eq d.name x.name) same ∙ nat_list_eq_equiv.refl d.name)
own (e ∷ ds) (suc i) d h at =
    ap (λ (b : Bool). if b then Some e else definition ds d.name) (turned e.name d.name (new_at e.name ds i d h.0 at)) ∙ own ds i d h.1 at

pub within : {A : Type 0} (xs : List A) (i : ℕ) (x : A) → slice_get xs i ≡ Some x → i < length xs
within [] i x h = cc
within (y ∷ ys) zero x h = omega arith
within (y ∷ ys) (suc i) x h = omega (arith, within ys i x h)

-- the first of too many: no depth is above 8
shallow_by : (b : Bool) (n : ℕ) (e : AlgoRefusal) (rest : Option AlgoRefusal) → nat_lt 8 n ≡ b → (if b then Some e else rest) ≡ None → (n ≤ 8) × (rest ≡ None)
shallow_by true n e rest is h = cc
shallow_by false n e rest is h = (ltb-false 8 n is, h)

all_shallow : (ns : List ℕ) → too_deep_by ns ≡ None → (i : ℕ) → i < length ns → get_or ns i 0 ≤ 8
all_shallow [] h i low = absurd (omega (arith, low))
all_shallow (n ∷ ns) h zero low = (shallow_by (nat_lt 8 n) n _ (too_deep_by ns) refl h).0
all_shallow (n ∷ ns) h (suc i) low = all_shallow ns (shallow_by (nat_lt 8 n) n _ (too_deep_by ns) refl h).1 i (omega (arith, low))

pub depths_count : (ds : List Def) → length (depths (links_of ds)) ≡ length ds
depths_count ds = length-map-range_with_len (deep ds) 0 (length (links_of ds)) ∙ links_count ds

pub at_most : (ds : List Def) → too_deep ds ≡ None → (i : ℕ) → i < length ds → deep ds i ≤ 8
at_most ds h i low = omega (arith, deep_at ds i low, all_shallow (depths (links_of ds)) h i (omega (arith, low, depths_count ds)))

same_rows : {A B : Type 0} (f : A → B) (xs : List A) (ys : List B) (y : B) → length ys ≡ length xs → ((i : ℕ) (x : A) → slice_get xs i ≡ Some x → get_or ys i y ≡ f x) → ys ≡ map f xs
same_rows f [] [] y h at = refl
same_rows f [] (z ∷ ys) y h at = absurd (omega (arith, h))
same_rows f (x ∷ xs) [] y h at = absurd (omega (arith, h))
same_rows f (x ∷ xs) (z ∷ ys) y h at = ap₂ (λ b bs. b ∷ bs) (at 0 x refl) (same_rows f xs ys y (omega (arith, h)) (λ i. at (suc i)))

-- a table of all depths
pub filled : (ds : List Def) (table : List Ports) → AreDistinctNames (names_of ds) → too_deep ds ≡ None → IsTable ds 9 table → table ≡ map (λ d. ports_of ds d.name) ds
filled ds table distinct shallow t = same_rows (λ d. ports_of ds d.name) ds table no_ports t.rows row
  where
    row : (i : ℕ) (d : Def) → slice_get ds i ≡ Some d → get_or table i no_ports ≡ ports_of ds d.name
    row i d at =
        let low = within ds i d at in
        t.ports i low (omega (arith, at_most ds shallow i low)) d.name (record { below = low; found = own ds i d distinct at })

small_none : IsSmall no_ports
small_none = record {
  short = (λ k d low. absurd (omega (arith, low)), λ k d low. absurd (omega (arith, low)));
  ins = omega arith;
  outs = omega arith;
}

replicate_count : {A : Type 0} (n : ℕ) (x : A) → length (replicate n x) ≡ n
replicate_count zero x = refl
replicate_count (suc n) x = ap suc (replicate_count n x)

replicate_all : {A : Type 0} (P : A → Type 0) (n : ℕ) (x : A) → P x → All P (replicate n x)
replicate_all P zero x h k d low = absurd (omega (arith, low))
replicate_all P (suc n) x h zero d low = h
replicate_all P (suc n) x h (suc k) d low = replicate_all P n x h k d (omega (arith, low))

-- the table without ports
pub empty : (ds : List Def) (n : ℕ) → n ≡ length ds → IsTable ds 0 (replicate n no_ports)
empty ds n h = record {
  rows = replicate_count n no_ports ∙ h;
  small = replicate_all IsSmall n no_ports small_none;
  ports = λ k low less. absurd (omega (arith, less));
}
