-- What stands at the place of a reference are its ports.
use Rattle.std.proofs.Common.{◌≡◌, ℕ, suc, ◌+◌, ◌<◌, ◌≤◌, Bool, true, false, cond, List, [], ◌∷◌, length, refl, sym, ◌∙◌, subst, arith, map}
use Rattle.std.proofs.lemmas.List.{get_or_default}
use Rattle.std.specs.Prelude.{not, slice_index_or, if◌then◌else◌}
use Rattle.std.specs.Str.{bytes_eq}
use Rattle.syn_base.specs.Bytes.{Bytes}
use Rattle.algo_rules.specs.declared.Def.{Def}
use Rattle.algo_rules.specs.declared.Reference.{Reference}
use Rattle.algo_rules.specs.declared.ports.Ports.{Ports}
use Rattle.algo_rules.specs.Ports.{no_ports, ports_of}
use Rattle.algo_rules.specs.Graphs.{place, ports_at}
use Rattle.algo_rules.specs.Placed.{ArePlaced}

module _ (ds : List Def) (table : List Ports) (w : Bytes) where
  -- at this place of the places stands the place of these ports
  abbrev pub Leads : List ℕ → ℕ → Ports → Type 0
  Leads places k ports = (slice_index_or places k 0 < length table) × (slice_index_or table (slice_index_or places k 0) no_ports ≡ ports)

  leads : (rs : List Reference) (places : List ℕ) → ArePlaced ds table (map (λ r. r.def) rs) places → place rs w < length places
      → Leads places (place rs w) (ports_at (ports_of ds) rs w)
  leads [] [] h lt = absurd (omega arith)
  leads [] (p ∷ ps) h lt = absurd h
  leads (r ∷ rs) [] h lt = absurd h
  leads (r ∷ rs) (p ∷ ps) h lt = by (leads rs ps h.1) (bytes_eq w r.name) lt
    where
      rest : (place rs w < length ps → Leads ps (place rs w) (ports_at (ports_of ds) rs w)) → (k : ℕ) → k ≡ suc (place rs w) → k < suc (length ps) → Leads (p ∷ ps) k (ports_at (ports_of ds) rs w)
      rest ih k e lt = subst (λ (k : ℕ). Leads (p ∷ ps) k (ports_at (ports_of ds) rs w)) (sym e) (ih (omega arith))

      by : (place rs w < length ps → Leads ps (place rs w) (ports_at (ports_of ds) rs w)) → (b : Bool) → cond (not b) (1 + place rs w) 0 < suc (length ps)
          → Leads (p ∷ ps) (cond (not b) (1 + place rs w) 0) (if b then ports_of ds r.def else ports_at (ports_of ds) rs w)
      by ih true lt = (h.0.in_table, h.0.ports)
      by ih false lt = rest ih (1 + place rs w) (omega arith) lt

  past : (rs : List Reference) (places : List ℕ) → ArePlaced ds table (map (λ r. r.def) rs) places → length places ≤ place rs w
      → ports_at (ports_of ds) rs w ≡ no_ports
  past [] [] h le = refl
  past [] (p ∷ ps) h le = absurd h
  past (r ∷ rs) [] h le = absurd h
  past (r ∷ rs) (p ∷ ps) h le = by (past rs ps h.1) (bytes_eq w r.name) le
    where
      by : (length ps ≤ place rs w → ports_at (ports_of ds) rs w ≡ no_ports)
          → (b : Bool) → suc (length ps) ≤ cond (not b) (1 + place rs w) 0 → (if b then ports_of ds r.def else ports_at (ports_of ds) rs w) ≡ no_ports
      by ih true le = absurd (omega arith)
      by ih false le = ih (omega arith)

  pub named_below : (rs : List Reference) (places : List ℕ) (k : ℕ) → k ≡ place rs w → ArePlaced ds table (map (λ r. r.def) rs) places → k < length places → slice_index_or places k 0 < length table
  named_below rs places k e h lt = let P : ℕ → Type 0 = λ k. k < length places → slice_index_or places k 0 < length table in subst P (sym e) (λ lt. (leads rs places h lt).0) lt

  pub named_at : (rs : List Reference) (places : List ℕ) (k : ℕ) (d : Ports) → k ≡ place rs w → ArePlaced ds table (map (λ r. r.def) rs) places → k < length places
      → slice_index_or table (slice_index_or places k 0) d ≡ ports_at (ports_of ds) rs w
  named_at rs places k d e h lt =
      let P : ℕ → Type 0 = λ k. k < length places → slice_index_or table (slice_index_or places k 0) no_ports ≡ ports_at (ports_of ds) rs w in
      get_or_default table (slice_index_or places k 0) d no_ports (named_below rs places k e h lt) ∙ subst P (sym e) (λ lt. (leads rs places h lt).1) lt

  pub named_past : (rs : List Reference) (places : List ℕ) (k : ℕ) → k ≡ place rs w → ArePlaced ds table (map (λ r. r.def) rs) places → length places ≤ k → ports_at (ports_of ds) rs w ≡ no_ports
  named_past rs places k e h le = past rs places h (omega arith)
