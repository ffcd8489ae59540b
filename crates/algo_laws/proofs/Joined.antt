-- The edges of a graph whose checks have no fault: what comes to each end has its length.
use Rattle.std.proofs.Common.{◌≡◌, ℕ, suc, ◌+◌, Bool, true, false, not, cond, ◌||◌, List, [], ◌∷◌, ◌++◌, map, get_or, Option, Some, None, refl, ap, ap₂, sym, subst, ◌∙◌, arith, if◌then◌else◌}
use Rattle.std.specs.Prelude.{◌==◌}
use Rattle.std.specs.Str.{bytes_eq}
use Rattle.std.proofs.lemmas.Bool.{eqb-true}
use Rattle.std.proofs.lemmas.Slice.Eq.{bytes_eq-Decides}
use Rattle.level_meaning.specs.declared.source.Source.{Source}
use Rattle.syn_base.specs.Bytes.{Bytes}
use Rattle.algo_rules.specs.declared.Port.{Port}
use Rattle.algo_rules.specs.Typed.{source_length}
use Rattle.algo_rules.specs.Well.{IsNewName, AreDistinctNames}
use Rattle.algo_rules.specs.declared.Reference.{Reference}
use Rattle.algo_rules.specs.declared.Edge.{Edge}
use Rattle.algo_rules.specs.declared.End.{End}
use Rattle.algo_rules.specs.declared.AlgoCause.TheVariants.{WrongLength, TwiceConnected, Unconnected}
use Rattle.algo_rules.specs.Words.{end_word, owned}
use Rattle.algo_rules.specs.Links.{fault, first_of}
use Rattle.algo_rules.specs.Ports.{number_of, lens_of}
use Rattle.algo_rules.specs.Graphs.{same_owner, same_end, is_connected, port_len, ports_at, givers, takers, joins, edge_fault, edge_faults, open_fault, open_faults, place}
use Rattle.algo_rules.specs.Resolved.{source_from, source_to, sources_to}
use Rattle.algo_rules.specs.WellRead.{port_names}
use Rattle.algo_rules.specs.declared.ports.Ports.{Ports}
use Rattle.algo_laws.proofs.Firsts.{Each, none_both, none_append, none_each}
use Rattle.algo_laws.proofs.Standing.{both}
use Rattle.algo_laws.proofs.Lengths.{len_at, len_is, IsFound, all_found, turned, same_bytes}

pub owner_is : (a b : Option Bytes) → same_owner a b ≡ true → a ≡ b
owner_is None None h = refl
owner_is None (Some s) h = cc
owner_is (Some r) None h = cc
owner_is (Some r) (Some s) h = ap (λ (w : Bytes). Some w) ((bytes_eq-Decides r s).0 h)

-- references with distinct names are found by them
module _ (of : Bytes → Ports) where
  abbrev pub IsPlaced : List Reference → Reference → Type 0
  IsPlaced rs r = ports_at of rs r.name ≡ of r.def

  behind : (r : Reference) (rs qs : List Reference) → IsNewName r.name (map (λ r. r.name) qs) → Each (IsPlaced rs) qs → Each (IsPlaced (r ∷ rs)) qs
  behind r rs [] new h = tt
  behind r rs (q ∷ qs) new h = (by (bytes_eq q.name r.name) (turned r.name q.name new.0), behind r rs qs new.1 h.1)
    where
      by : (b : Bool) → b ≡ false → (if b then of r.def else ports_at of rs q.name) ≡ of q.def
      by true e = cc
      by false e = h.0

  pub all_placed : (rs : List Reference) → AreDistinctNames (map (λ r. r.name) rs) → Each (IsPlaced rs) rs
  all_placed [] h = tt
  all_placed (r ∷ rs) h = (by (bytes_eq r.name r.name) (same_bytes r.name), behind r rs rs h.0 (all_placed rs h.1))
    where
      by : (b : Bool) → b ≡ true → (if b then of r.def else ports_at of rs r.name) ≡ of r.def
      by true e = refl
      by false e = cc

  -- the lengths of the outputs of each reference
  abbrev pub out_lens : List Reference → List (List ℕ)
  out_lens rs = map (λ r. lens_of (of r.def).outs) rs

  outs_at : (rs : List Reference) (s : Bytes) → get_or (out_lens rs) (place rs s) [] ≡ lens_of (ports_at of rs s).outs
  outs_at [] s = refl
  outs_at (r ∷ rs) s = by (outs_at rs s) (bytes_eq s r.name)
    where
      by : get_or (out_lens rs) (place rs s) [] ≡ lens_of (ports_at of rs s).outs
          → (b : Bool) → get_or (out_lens (r ∷ rs)) (cond (not b) (1 + place rs s) 0) [] ≡ lens_of (if b then of r.def else ports_at of rs s).outs
      by rest true = refl
      by rest false = let next : 1 + place rs s ≡ suc (place rs s) = omega arith in rw next rest

module _ (of : Bytes → Ports) (own : Ports) (references : List Reference) where
  -- the lengths at both ends of an edge are there and equal
  abbrev pub Joins : Edge → Type 0
  Joins e = (n : ℕ) × ((port_len (givers of own references e.from.owner) e.from.port ≡ Some n) × (port_len (takers of own references e.to.owner) e.to.port ≡ Some n))

  joins_by : (before : List Edge) (e : Edge) (x y : Option ℕ) → joins of own references before e x y ≡ None → (n : ℕ) × ((x ≡ Some n) × (y ≡ Some n))
  joins_by before e None y h = cc
  joins_by before e (Some n) None h = cc
  joins_by before e (Some n) (Some m) h = by (n == m) refl h
    where
      by : (b : Bool) → (n == m) ≡ b
          → (if not b then fault e.line (WrongLength (end_word e.to)) else (if is_connected before e.to then fault e.line (TwiceConnected (end_word e.to)) else None)) ≡ None
          → (k : ℕ) × ((Some n ≡ Some k) × (Some m ≡ Some k))
      by true i k = (n, (refl, ap (λ (j : ℕ). Some j) (sym (eqb-true n m i))))
      by false i k = cc

  pub all_join : (before es : List Edge) → first_of (edge_faults of own references before es) ≡ None → Each Joins es
  all_join before [] h = tt
  all_join before (e ∷ es) h =
      let two = none_both (edge_fault of own references before e) (edge_faults of own references (before ++ e ∷ []) es) h in
      (joins_by before e (port_len (givers of own references e.from.owner) e.from.port) (port_len (takers of own references e.to.owner) e.to.port) two.0, all_join (before ++ e ∷ []) es two.1)

  abbrev pub source_len : Source → ℕ
  source_len s = source_length (lens_of own.ins) (out_lens of references) s

  from_fits : (o : Option Bytes) (p : Bytes) (n : ℕ) → port_len (givers of own references o) p ≡ Some n → source_len (source_from of own.ins references o p) ≡ n
  from_fits None p n h = len_at own.ins p ∙ len_is own.ins p n h
  from_fits (Some r) p n h =
      ap (λ (ns : List ℕ). get_or ns (number_of (ports_at of references r).outs p) 0) (outs_at of references r)
      ∙ len_at (ports_at of references r).outs p ∙ len_is (ports_at of references r).outs p n h

  pub source_fits : (es : List Edge) → Each Joins es → (e : End) → is_connected es e ≡ true → (n : ℕ) → port_len (takers of own references e.owner) e.port ≡ Some n
      → source_len (source_to of own.ins references es e) ≡ n
  source_fits [] h e k n is = cc
  source_fits (f ∷ fs) h e k n is = by (λ j. source_fits fs h.1 e j n is) (same_end f.to e) refl k
    where
      by : (is_connected fs e ≡ true → source_len (source_to of own.ins references fs e) ≡ n) → (b : Bool) → same_end f.to e ≡ b → (b || is_connected fs e) ≡ true
          → source_len (if b then source_from of own.ins references f.from.owner f.from.port else source_to of own.ins references fs e) ≡ n
      by rest true i j =
          let two = both (same_owner f.to.owner e.owner) (bytes_eq f.to.port e.port) i in
          let at : port_len (takers of own references f.to.owner) f.to.port ≡ port_len (takers of own references e.owner) e.port =
          ap₂ (λ (o : Option Bytes) (p : Bytes). port_len (takers of own references o) p) (owner_is f.to.owner e.owner two.0) ((bytes_eq-Decides f.to.port e.port).0 two.1) in
          let same : h.0.0 ≡ n = let both_are : Some h.0.0 ≡ Some n = sym h.0.1.1 ∙ at ∙ is in cc in
          from_fits f.from.owner f.from.port h.0.0 h.0.1.0 ∙ same
      by rest false i j = rest j

  abbrev IsReached : List Edge → Option Bytes → Port → Type 0
  IsReached edges owner p = is_connected edges (record { owner = owner; port = p.name }) ≡ true

  none_open : (edges : List Edge) (line : ℕ) (owner : Option Bytes) (ps : List Port) → open_fault of own references edges line owner ps ≡ None → Each (IsReached edges owner) ps
  none_open edges line owner [] h = tt
  none_open edges line owner (p ∷ ps) h = by (λ k. none_open edges line owner ps k) (is_connected edges (record { owner = owner; port = p.name })) refl h
    where
      by : (open_fault of own references edges line owner ps ≡ None → Each (IsReached edges owner) ps) → (b : Bool) → is_connected edges (record { owner = owner; port = p.name }) ≡ b
          → (if b then open_fault of own references edges line owner ps else fault line (Unconnected (owned owner p.name))) ≡ None → Each (IsReached edges owner) (p ∷ ps)
      by rest true e k = (e, rest k)
      by rest false e k = cc

  sources_fit : (edges : List Edge) → Each Joins edges → (owner : Option Bytes) (ps : List Port) → Each (IsReached edges owner) ps → Each (IsFound (takers of own references owner)) ps
      → map source_len (sources_to of own.ins references edges owner ps) ≡ lens_of ps
  sources_fit edges h owner [] k found = refl
  sources_fit edges h owner (p ∷ ps) k found =
      ap₂ (λ (n : ℕ) (ns : List ℕ). n ∷ ns) (source_fits edges h (record { owner = owner; port = p.name }) k.0 p.len found.0) (sources_fit edges h owner ps k.1 found.1)

  abbrev pub IsSupplied : List Edge → Reference → Type 0
  IsSupplied edges r = map source_len (sources_to of own.ins references edges (Some r.name) (of r.def).ins) ≡ lens_of (of r.def).ins

  supplied : (edges : List Edge) → Each Joins edges → (rs : List Reference) → Each (λ r. open_fault of own references edges r.line (Some r.name) (of r.def).ins ≡ None) rs
      → Each (IsPlaced of references) rs → Each (λ r. AreDistinctNames (port_names (of r.def).ins)) rs → Each (IsSupplied edges) rs
  supplied edges h [] none placed distinct = tt
  supplied edges h (r ∷ rs) none placed distinct = (
    sources_fit edges h (Some r.name) (of r.def).ins (none_open edges r.line (Some r.name) (of r.def).ins none.0)
        (subst (λ (p : Ports). Each (IsFound p.ins) (of r.def).ins) (sym placed.0) (all_found (of r.def).ins distinct.0)),
    supplied edges h rs none.1 placed.1 distinct.1,
  )

  pub record GraphFits (edges : List Edge) : Type 0 where
    pub joined : Each Joins edges
    pub outs : map source_len (sources_to of own.ins references edges None own.outs) ≡ lens_of own.outs
    pub ins : Each (IsSupplied edges) references

  pub graph_fits : (line : ℕ) (edges : List Edge) → first_of (edge_faults of own references [] edges) ≡ None → first_of (open_faults of own references line edges) ≡ None
      → AreDistinctNames (port_names own.outs) → AreDistinctNames (map (λ r. r.name) references) → Each (λ r. AreDistinctNames (port_names (of r.def).ins)) references → GraphFits edges
  graph_fits line edges h k outs once ins =
      let joined = all_join [] edges h in
      let two = none_append (map (λ r. open_fault of own references edges r.line (Some r.name) (of r.def).ins) references) (open_fault of own references edges line None own.outs ∷ []) k in
      let last = none_both (open_fault of own references edges line None own.outs) [] two.1 in
      record {
        joined = joined;
        outs = sources_fit edges joined None own.outs (none_open edges line None own.outs last.0) (all_found own.outs outs);
        ins = supplied edges joined references (none_each (λ r. open_fault of own references edges r.line (Some r.name) (of r.def).ins) references two.0) (all_placed of references once) ins;
      }
