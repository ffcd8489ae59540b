-- Tables at the start, and steps of loops.
use Rattle.std.proofs.Common.{
  ◌≡◌,
  ℕ,
  zero,
  suc,
  ◌+◌,
  ◌*◌,
  ◌<◌,
  ◌≤◌,
  Bool,
  false,
  cond,
  ◌&&◌,
  List,
  [],
  ◌∷◌,
  map,
  max,
  length,
  drop,
  replicate,
  get_or,
  Option,
  None,
  Some,
  refl,
  sym,
  ap,
  arith,
  ◌∙◌,
  drop-cons,
}
use Rattle.std.specs.Prelude.{slice_index_or, slice_set, nat_le, nat_lt, is_some}
use Rattle.std.specs.List.{list_all}
use Rattle.std.proofs.lemmas.Bool.{le-ltb, and_left, and_right}
use Rattle.std.proofs.lemmas.List.Folds.{list_all-append, list_all-map}
use Rattle.durations.specs.declared.Guard.{Guard}
use Rattle.durations.specs.declared.Vertex.{Vertex}
use Rattle.schedule.specs.declared.decision.Decision.{Decision}
use Rattle.schedule.specs.declared.window.Window.{Window}
use Rattle.schedule.specs.Acts.{Act, acts_of, carry, Copy, copy, latest, outputs_from, sources_of}
use Rattle.schedule.specs.Windows.{IsEmpty, covers, since, lesser_date, noted, noted_all, place, are_fed_from, are_fed, is_by}
use Rattle.schedule.proofs.Feeding.{fed_same}
use Rattle.schedule.proofs.Lengths.{latest_more}

pub no_entry : (n v : ℕ) → slice_index_or (replicate {A = Option ℕ} n None) v None ≡ None
no_entry zero v = refl
no_entry (suc n) zero = refl
no_entry (suc n) (suc v) = no_entry n v

-- a table has no place beyond output 63
pub none_past : (first : ℕ) (held : List (Option ℕ)) (date : ℕ) (c : Copy) → 64 ≤ c.source.port → noted first held date c ≡ held
none_past first held date c h = ap (λ (b : Bool). cond b (slice_set held (place first c) (Some (lesser_date (since first held c) date))) held) none
  where
    none : covers first c ≡ false
    none =
        and_left (nat_le first c.source.vertex && nat_lt c.source.vertex (first + 16) && nat_lt c.source.port 64) (nat_lt c.operator 16)
        (and_right (nat_le first c.source.vertex && nat_lt c.source.vertex (first + 16)) (nat_lt c.source.port 64) (le-ltb c.source.port 64 h))

-- the sources of guards, and then those of inputs
pub reads_by_parts : (p : Copy → Bool) (o : ℕ) (x : Vertex)
    → list_all p (map (copy o) (sources_of (Some x))) ≡ (list_all (λ (g : Guard). p (copy o g.source)) x.guards && list_all (λ s. p (copy o s)) x.ins)
reads_by_parts p o x =
    list_all-map p (copy o) (sources_of (Some x))
    ∙ list_all-append (λ s. p (copy o s)) (map (λ (g : Guard). g.source) x.guards) x.ins
    ∙ ap (λ b. b && list_all (λ s. p (copy o s)) x.ins) (list_all-map (λ s. p (copy o s)) (λ (g : Guard). g.source) x.guards)

-- one more decision
pub latest_step : (ds : List Decision) (i n : ℕ) (d : Decision) → i < length ds → d ≡ get_or ds i d
    → max (max (max d.end (latest (map carry d.transfers))) n) (latest (acts_of (drop (i + 1) ds))) ≡ max n (latest (acts_of (drop i ds)))
latest_step ds i n d h is =
    let one : suc i ≡ i + 1 = omega arith in
    let e : drop i ds ≡ d ∷ drop (i + 1) ds = drop-cons ds i d h ∙ (λ j. sym is j ∷ drop (one j) ds) in
    let m = latest_more d (drop (i + 1) ds) in
    let f = ap (λ (l : List Decision). latest (acts_of l)) e in
    omega arith

-- a window that is empty tells nothing was done so far
pub fed_at_start : (vertices : List Vertex) (w : Window) (k : ℕ) (xs : List Act) → IsEmpty w (k * 16) → are_fed vertices w xs ≡ are_fed_from vertices xs k
fed_at_start vertices w k xs empty =
    (λ i. are_fed vertices (record { first = empty.from i; held = w.held }) xs)
    ∙ fed_same vertices (k * 16) w.held [] xs (record {
      size = empty.size;
      by_date = λ c date h. ap (λ (o : Option ℕ). is_by o date) (empty.none (place (k * 16) c));
      made = λ c h. ap is_some (empty.none (place (k * 16) c));
    })

-- one more output
pub noted_step : (w u : Window) (o v e port : ℕ) (outs : List ℕ) → port < length outs → u ≡ record { first = w.first; held = noted w.first w.held e (copy o (record { vertex = v; port = port })) }
    → noted_all u.first u.held e (map (copy o) (outputs_from v (port + 1) (drop (port + 1) outs))) ≡ noted_all w.first w.held e (map (copy o) (outputs_from v port (drop port outs)))
noted_step w u o v e port outs h is =
    let one : suc port ≡ port + 1 = omega arith in
    let d : drop port outs ≡ get_or outs port 0 ∷ drop (port + 1) outs = drop-cons outs port 0 h ∙ (λ j. get_or outs port 0 ∷ drop (one j) outs) in
    (λ i. noted_all (is i).first (is i).held e (map (copy o) (outputs_from v (port + 1) (drop (port + 1) outs))))
    ∙ (λ i. noted_all w.first w.held e (map (copy o) (outputs_from v port (sym d i))))
