-- Marks say into which ends edges lead.
use Rattle.std.proofs.Common.{◌≡◌, ◌≢◌, ℕ, ◌+◌, ◌*◌, ◌<◌, ◌≤◌, Bool, true, false, ◌||◌, ◌⊎◌, inl, inr, List, [], ◌∷◌, ◌++◌, length, replicate, refl, sym, ◌∙◌, subst, ap, arith}
use Rattle.std.specs.Prelude.{nat_lt, Option, Some, None, slice_index_or, slice_set}
use Rattle.std.specs.Cmp.Derive.{both_true}
use Rattle.std.specs.Str.{bytes_eq}
use Rattle.std.proofs.lemmas.Bool.{cases_lt, ltb-true, and_parts, false≢true}
use Rattle.std.proofs.lemmas.Option.{cond_some}
use Rattle.std.proofs.lemmas.List.{get_or_past, get_or-replicate, length-replicate, get_or-set_same, get_or-set_other}
use Rattle.std.proofs.lemmas.List.Folds.{list_any-append}
use Rattle.std.proofs.lemmas.Slice.Eq.{bytes_eq-Decides}
use Rattle.syn_base.specs.Bytes.{Bytes}
use Rattle.algo_rules.specs.declared.Port.{Port}
use Rattle.algo_rules.specs.declared.Edge.{Edge}
use Rattle.algo_rules.specs.declared.End.{End}
use Rattle.algo_rules.specs.declared.ports.Ports.{Ports}
use Rattle.algo_rules.specs.Ports.{no_ports, number_of}
use Rattle.algo_rules.specs.Graphs.{place, is_connected, same_end, same_owner}
use Rattle.body_check.specs.Parts.{of, named, IsPlacedGraph}
use Rattle.body_check.specs.Marks.{AreMarked, HasRows, marked, spot, spot_in}
use Rattle.body_check.specs.declared.parts.GraphParts.{GraphParts}
use Rattle.body_check.proofs.Named.{named_at, named_past}
use Rattle.body_check.proofs.NamesFound.{one_port, one_reference, no_reference, owner_is}

abbrev pub end : Option Bytes → Bytes → End
end owner port = record { owner = owner; port = port }

-- what a place in a row tells
pub spot_tells : (row : ℕ) (ps : List Port) (w : Bytes) (k : ℕ) → spot_in row ps w ≡ Some k → (number_of ps w < length ps) × (row * 65 + number_of ps w ≡ k)
spot_tells row ps w k h = let p = cond_some (nat_lt (number_of ps w) (length ps)) (row * 65 + number_of ps w) k h in (ltb-true (number_of ps w) (length ps) p.0, p.1)

module _ (g : GraphParts) (placed : IsPlacedGraph g) (rows : HasRows g) where
  -- inputs of a reference that is there fit its row
  fits : (r : Bytes) → length (named g r).ins ≤ 65
  fits r = elim (cases_lt (place g.references.now r) (length g.places.now)) [
    | inl lt ↦ (let e = named_at g.defs.now g.table.now r g.references.now g.places.now (place g.references.now r) no_ports refl placed lt in
        subst (λ (p : Ports). length p.ins ≤ 65) e (rows.ins (place g.references.now r) 0 lt))
    | inr le ↦ (let e = named_past g.defs.now g.table.now r g.references.now g.places.now (place g.references.now r) refl placed le in
        subst (λ (p : Ports). length p.ins ≤ 65) (sym e) (omega arith))
  ]

  there : (r w : Bytes) → number_of (named g r).ins w < length (named g r).ins → place g.references.now r < length g.references.now
  there r w lt = elim (cases_lt (place g.references.now r) (length g.references.now)) [
    | inl lt ↦ lt
    | inr le ↦ (let e = no_reference (of g) g.references.now r le in
        let none : length (named g r).ins ≡ 0 = ap (λ (p : Ports). length p.ins) e in absurd (omega arith))
  ]

  -- one mark is that of one end
  one_spot : (a b : Option Bytes) (v w : Bytes) (k : ℕ) → spot g a v ≡ Some k → spot g b w ≡ Some k → same_end (end a v) (end b w) ≡ true
  one_spot None None v w k h i =
      let s = spot_tells (length g.references.now) g.outs.now v k h in
      let t = spot_tells (length g.references.now) g.outs.now w k i in
      let e : number_of g.outs.now v ≡ number_of g.outs.now w = omega arith in
      (bytes_eq-Decides v w).1 (one_port g.outs.now v w s.0 e)
  one_spot None (Some r) v w k h i =
      let s = spot_tells (length g.references.now) g.outs.now v k h in
      let t = spot_tells (place g.references.now r) (named g r).ins w k i in
      let f = fits r in
      let l = there r w t.0 in
      let o = rows.outs in
      absurd (omega arith)
  one_spot (Some r) None v w k h i =
      let s = spot_tells (place g.references.now r) (named g r).ins v k h in
      let t = spot_tells (length g.references.now) g.outs.now w k i in
      let f = fits r in
      let l = there r v s.0 in
      let o = rows.outs in
      absurd (omega arith)
  one_spot (Some q) (Some r) v w k h i =
      let s = spot_tells (place g.references.now q) (named g q).ins v k h in
      let t = spot_tells (place g.references.now r) (named g r).ins w k i in
      let f = fits q in
      let f' = fits r in
      let l = there q v s.0 in
      let same : place g.references.now q ≡ place g.references.now r = omega arith in
      let e : q ≡ r = one_reference g.references.now q r l same in
      let P : Bytes → Type 0 = λ r. number_of (named g r).ins w < length (named g r).ins → number_of (named g q).ins v ≡ number_of (named g r).ins w → v ≡ w in
      let n : number_of (named g q).ins v ≡ number_of (named g r).ins w = omega arith in
      both_true ((bytes_eq-Decides q r).1 e) ((bytes_eq-Decides v w).1 (subst P e (λ _ n. one_port (named g q).ins v w s.0 n) t.0 n))

  same_spot : (a b : Option Bytes) (v w : Bytes) → same_end (end a v) (end b w) ≡ true → spot g a v ≡ spot g b w
  same_spot a b v w h =
      let p = and_parts (same_owner a b) (bytes_eq v w) h in
      let e : a ≡ b = owner_is a b p.0 in
      let f : v ≡ w = (bytes_eq-Decides v w).0 p.1 in
      cc

  -- a mark set is one end more
  one_more : (marks : List Bool) (k : ℕ) (o : Option ℕ) → k < length marks → (o ≡ Some k → ⊥) → marked (slice_set marks k true) o ≡ marked marks o
  one_more marks k None lt ne = refl
  one_more marks k (Some j) lt ne = let d : j ≢ k = λ e. ne (ap (λ (n : ℕ). Some n) e) in get_or-set_other marks k j true false d

  pub more_marked : (marks : List Bool) (es : List Edge) (e : Edge) (k : ℕ) → spot g e.to.owner e.to.port ≡ Some k → k < length marks
      → AreMarked g marks es → AreMarked g (slice_set marks k true) (es ++ e ∷ [])
  more_marked marks es e k s lt h owner port =
      by (same_end e.to (end owner port)) refl ∙ sym (list_any-append (λ f. same_end f.to (end owner port)) es (e ∷ []))
    where
      by : (b : Bool) → same_end e.to (end owner port) ≡ b → marked (slice_set marks k true) (spot g owner port) ≡ (is_connected es (end owner port) || (b || false))
      by true i =
          let at : spot g owner port ≡ Some k = sym (same_spot e.to.owner owner e.to.port port i) ∙ s in
          subst (λ (o : Option ℕ). marked (slice_set marks k true) o ≡ (is_connected es (end owner port) || true)) (sym at)
          (get_or-set_same marks k true false lt ∙ sym (or_true (is_connected es (end owner port))))
        where
          or_true : (b : Bool) → (b || true) ≡ true
          or_true true = refl
          or_true false = refl
      by false i =
          one_more marks k (spot g owner port) lt (λ at. false≢true (sym i ∙ one_spot e.to.owner owner e.to.port port k s at))
          ∙ h owner port ∙ or_false (is_connected es (end owner port))
        where
          or_false : (b : Bool) → b ≡ (b || false)
          or_false true = refl
          or_false false = refl

  -- each mark stands in its row
  pub spot_below : (a : Option Bytes) (v : Bytes) (k : ℕ) → spot g a v ≡ Some k → k < (length g.references.now + 1) * 65
  spot_below None v k h = let s = spot_tells (length g.references.now) g.outs.now v k h in let o = rows.outs in omega arith
  spot_below (Some r) v k h =
      let s = spot_tells (place g.references.now r) (named g r).ins v k h in
      let f = fits r in
      let l = there r v s.0 in
      omega arith

-- without marks no edges
pub none_marked : (g : GraphParts) (n : ℕ) → AreMarked g (replicate n false) []
none_marked g n owner port = by (spot g owner port)
  where
    at : (k : ℕ) → (k < n) ⊎ (n ≤ k) → slice_index_or (replicate n false) k false ≡ false
    at k (inl lt) = get_or-replicate n k false false lt
    at k (inr le) = get_or_past (replicate n false) k false (omega (arith, length-replicate n false))

    by : (o : Option ℕ) → marked (replicate n false) o ≡ false
    by None = refl
    by (Some k) = at k (cases_lt k n)
