-- Where names are found.
use Rattle.std.proofs.Common.{◌≡◌, ℕ, suc, ◌+◌, ◌<◌, ◌≤◌, Bool, true, false, cond, None, List, [], ◌∷◌, length, refl, sym, ◌∙◌, subst, ap, arith}
use Rattle.std.specs.Prelude.{not, Option, Some, None, slice_index_or, if◌then◌else◌}
use Rattle.std.specs.Str.{bytes_eq}
use Rattle.std.proofs.lemmas.List.Sums.{passes_at_first}
use Rattle.std.proofs.lemmas.Slice.Eq.{bytes_eq-Decides}
use Rattle.syn_base.specs.Bytes.{Bytes}
use Rattle.algo_rules.specs.declared.Port.{Port}
use Rattle.algo_rules.specs.declared.Reference.{Reference}
use Rattle.algo_rules.specs.declared.ports.Ports.{Ports}
use Rattle.algo_rules.specs.Ports.{no_ports, number_of}
use Rattle.algo_rules.specs.Graphs.{place, port_len, ports_at, same_owner}

pub same_bytes : (w : Bytes) → bytes_eq w w ≡ true
same_bytes w = (bytes_eq-Decides w w).1 refl

-- what is found at one place has one name
pub one_port : (ps : List Port) (v w : Bytes) → number_of ps v < length ps → number_of ps v ≡ number_of ps w → v ≡ w
one_port ps v w lt e =
    let d : Port = record { name = v; len = 0 } in
    let P : ℕ → Type 0 = λ k. bytes_eq w (slice_index_or ps k d).name ≡ true in
    let there : number_of ps w < length ps = omega arith in
    (bytes_eq-Decides v (slice_index_or ps (number_of ps v) d).name).0 (passes_at_first (λ p. bytes_eq v p.name) ps d lt)
    ∙ sym ((bytes_eq-Decides w (slice_index_or ps (number_of ps v) d).name).0 (subst P (sym e) (passes_at_first (λ p. bytes_eq w p.name) ps d there)))

pub one_reference : (rs : List Reference) (v w : Bytes) → place rs v < length rs → place rs v ≡ place rs w → v ≡ w
one_reference rs v w lt e =
    let d : Reference = record { name = v; def = v; every = None; line = 0 } in
    let P : ℕ → Type 0 = λ k. bytes_eq w (slice_index_or rs k d).name ≡ true in
    let there : place rs w < length rs = omega arith in
    (bytes_eq-Decides v (slice_index_or rs (place rs v) d).name).0 (passes_at_first (λ p. bytes_eq v p.name) rs d lt)
    ∙ sym ((bytes_eq-Decides w (slice_index_or rs (place rs v) d).name).0 (subst P (sym e) (passes_at_first (λ p. bytes_eq w p.name) rs d there)))

-- a port with a length is there
pub port_found : (ps : List Port) (w : Bytes) (n : ℕ) → port_len ps w ≡ Some n → number_of ps w < length ps
port_found [] w n h = absurd (cc)
port_found (p ∷ ps) w n h = by (port_found ps w n) (bytes_eq w p.name) h
  where
    by : (port_len ps w ≡ Some n → number_of ps w < length ps) → (b : Bool) → (if b then Some p.len else port_len ps w) ≡ Some n → cond (not b) (1 + number_of ps w) 0 < suc (length ps)
    by ih true h = omega arith
    by ih false h = let lt : number_of ps w < length ps = ih h in omega arith

-- what is no reference has no ports
pub no_reference : (of : Bytes → Ports) (rs : List Reference) (w : Bytes) → length rs ≤ place rs w → ports_at of rs w ≡ no_ports
no_reference of [] w le = refl
no_reference of (r ∷ rs) w le = by (no_reference of rs w) (bytes_eq w r.name) le
  where
    by : (length rs ≤ place rs w → ports_at of rs w ≡ no_ports)
        → (b : Bool) → suc (length rs) ≤ cond (not b) (1 + place rs w) 0 → (if b then of r.def else ports_at of rs w) ≡ no_ports
    by ih true le = absurd (omega arith)
    by ih false le = ih (omega arith)

-- the test of two ends
pub owner_is : (a b : Option Bytes) → same_owner a b ≡ true → a ≡ b
owner_is None None h = refl
owner_is None (Some s) h = absurd (cc)
owner_is (Some r) None h = absurd (cc)
owner_is (Some r) (Some s) h = ap (λ (w : Bytes). Some w) ((bytes_eq-Decides r s).0 h)

pub is_owner : (a b : Option Bytes) → a ≡ b → same_owner a b ≡ true
is_owner None None e = refl
is_owner None (Some s) e = absurd (cc)
is_owner (Some r) None e = absurd (cc)
is_owner (Some r) (Some s) e = (bytes_eq-Decides r s).1 (cc)
