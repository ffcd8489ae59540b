-- One edge more.
use Rattle.std.proofs.Common.{◌≡◌, ℕ, suc, ◌+◌, ◌*◌, ◌<◌, Bool, List, [], ◌∷◌, ◌++◌, length, take, drop, get_or, refl, sym, ◌∙◌, subst, ap, arith, add-one, drop-cons}
use Rattle.std.specs.Prelude.{Option, Some, None, Err, if◌then◌else◌}
use Rattle.std.proofs.lemmas.Bool.{lt-ltb}
use Rattle.std.proofs.lemmas.List.{take_more}
use Rattle.syn_base.specs.Bytes.{Bytes}
use Rattle.algo_rules.specs.declared.Port.{Port}
use Rattle.algo_rules.specs.declared.Edge.{Edge}
use Rattle.algo_rules.specs.Links.{first_of}
use Rattle.algo_rules.specs.Ports.{number_of}
use Rattle.algo_rules.specs.Graphs.{place, port_len, is_connected, edge_fault, edge_faults, joins}
use Rattle.algo_rules.specs.Placed.{Checks}
use Rattle.body_check.specs.Parts.{of, own, named, givers, takers, IsPlacedGraph}
use Rattle.body_check.specs.Marks.{AreMarked, HasRows, edge_by, mark_at, marked, spot, spot_in}
use Rattle.body_check.specs.declared.parts.GraphParts.{GraphParts}
use Rattle.body_check.proofs.NamesFound.{port_found}
use Rattle.body_check.proofs.Marked.{more_marked, spot_below}
use Rattle.text_lines.specs.declared.fault.TextError.TheVariants as error
use Rattle.text_lines.specs.Refusals.{Refused, Limit}
use Rattle.algo_rules.specs.Refusals.{AlgoError, AlgoRefusal}

-- what is refused first is refused in the whole
pub first_stops : (r : AlgoError) (x : Option AlgoRefusal) (xs : List (Option AlgoRefusal)) → Checks {A = Unit {0}} (Err r) x → Checks {A = Unit {0}} (Err r) (first_of (x ∷ xs))
first_stops (error.Refused f) x xs h = subst (λ (x : Option AlgoRefusal). first_of (x ∷ xs) ≡ Some (Refused f)) (sym h) refl
first_stops (error.Limit f) x xs h = subst (λ (x : Option AlgoRefusal). first_of (x ∷ xs) ≡ Some (Limit f)) (sym h) refl
first_stops error.OutOfMemory x xs h = h

pub first_passes : (x : Option AlgoRefusal) (xs : List (Option AlgoRefusal)) → x ≡ None → first_of (x ∷ xs) ≡ first_of xs
first_passes x xs h = ap (λ (x : Option AlgoRefusal). first_of (x ∷ xs)) h

spot_there : (row : ℕ) (ps : List Port) (w : Bytes) (n : ℕ) → port_len ps w ≡ Some n → spot_in row ps w ≡ Some (row * 65 + number_of ps w)
spot_there row ps w n h = ap (λ (b : Bool). if b then Some (row * 65 + number_of ps w) else None) (lt-ltb (number_of ps w) (length ps) (port_found ps w n h))

module _ (g : GraphParts) where
  abbrev pub fault_at : Bool → Edge → Option AlgoRefusal
  fault_at t e = edge_by t e (port_len (givers g e.from.owner) e.from.port) (port_len (takers g e.to.owner) e.to.port)

  abbrev pub faults : List Edge → List Edge → List (Option AlgoRefusal)
  faults before es = edge_faults (of g) (own g) g.references.now before es

  edge_is : (before : List Edge) (e : Edge) (t : Bool) → t ≡ is_connected before e.to → fault_at t e ≡ edge_fault (of g) (own g) g.references.now before e
  edge_is before e t h = by (port_len (givers g e.from.owner) e.from.port) (port_len (takers g e.to.owner) e.to.port)
    where
      by : (x y : Option ℕ) → edge_by t e x y ≡ joins (of g) (own g) g.references.now before e x y
      by None y = refl
      by (Some n) None = refl
      by (Some n) (Some m) = ap (λ (t : Bool). edge_by t e (Some n) (Some m)) h

  there_by : (t : Bool) (e : Edge) (x y : Option ℕ) → edge_by t e x y ≡ None → (n : ℕ) × (y ≡ Some n)
  there_by t e None y h = absurd (cc)
  there_by t e (Some n) None h = absurd (cc)
  there_by t e (Some n) (Some m) h = (m, refl)

  spot_of : (a : Option Bytes) (w : Bytes) (n : ℕ) → port_len (takers g a) w ≡ Some n → (k : ℕ) × (spot g a w ≡ Some k)
  spot_of None w n h = (_, spot_there (length g.references.now) g.outs.now w n h)
  spot_of (Some r) w n h = (_, spot_there (place g.references.now r) (named g r).ins w n h)

  next : (es : List Edge) (i : ℕ) (e : Edge) → e ≡ get_or es i e → i < length es → take (i + 1) es ≡ take i es ++ e ∷ []
  next es i e at lt = take_more es i e lt ∙ ap (λ (x : Edge). take i es ++ x ∷ []) (sym at)

  first_edge : (marks : List Bool) (es : List Edge) (i : ℕ) (e : Edge) (t : Bool) → e ≡ get_or es i e → i < length es
      → t ≡ marked marks (spot g e.to.owner e.to.port) → AreMarked g marks (take i es)
      → first_of (faults (take i es) (drop i es)) ≡ first_of (fault_at t e ∷ faults (take (i + 1) es) (drop (i + 1) es))
  first_edge marks es i e t at lt told h =
      let a : drop i es ≡ e ∷ drop (i + 1) es = rw add-one (drop-cons es i e lt ∙ ap (λ (x : Edge). x ∷ drop (suc i) es) (sym at)) in
      ap (λ (ds : List Edge). first_of (faults (take i es) ds)) a
      ∙ ap (λ (x : Option AlgoRefusal). first_of (x ∷ faults (take i es ++ e ∷ []) (drop (i + 1) es))) (sym (edge_is (take i es) e t (told ∙ h e.to.owner e.to.port)))
      ∙ ap (λ (ts : List Edge). first_of (fault_at t e ∷ faults ts (drop (i + 1) es))) (sym (next es i e at lt))

  pub edge_passes : (marks : List Bool) (es : List Edge) (i : ℕ) (e : Edge) (t : Bool) → e ≡ get_or es i e → i < length es
      → t ≡ marked marks (spot g e.to.owner e.to.port) → AreMarked g marks (take i es) → fault_at t e ≡ None
      → first_of (faults (take (i + 1) es) (drop (i + 1) es)) ≡ first_of (faults (take i es) (drop i es))
  edge_passes marks es i e t at lt told h none =
      sym (first_edge marks es i e t at lt told h ∙ first_passes (fault_at t e) (faults (take (i + 1) es) (drop (i + 1) es)) none)

  pub edge_stops : (marks : List Bool) (es : List Edge) (i : ℕ) (e : Edge) (t : Bool) (r : AlgoError) (all : Option AlgoRefusal) → e ≡ get_or es i e → i < length es
      → t ≡ marked marks (spot g e.to.owner e.to.port) → AreMarked g marks (take i es) → first_of (faults (take i es) (drop i es)) ≡ all
      → Checks {A = Unit {0}} (Err r) (fault_at t e) → Checks {A = Unit {0}} (Err r) all
  edge_stops marks es i e t r all at lt told h rest stops =
      subst (λ (x : Option AlgoRefusal). Checks {A = Unit {0}} (Err r) x) (sym (first_edge marks es i e t at lt told h) ∙ rest)
      (first_stops r (fault_at t e) (faults (take (i + 1) es) (drop (i + 1) es)) stops)

  pub edge_marked : IsPlacedGraph g → HasRows g → (marks : List Bool) (es : List Edge) (i : ℕ) (e : Edge) (t : Bool) (o : Option ℕ) → e ≡ get_or es i e → i < length es
      → o ≡ spot g e.to.owner e.to.port → length marks ≡ (length g.references.now + 1) * 65 → AreMarked g marks (take i es) → fault_at t e ≡ None
      → AreMarked g (mark_at marks o) (take (i + 1) es)
  edge_marked placed rows marks es i e t o at lt is room h none =
      let y = there_by t e (port_len (givers g e.from.owner) e.from.port) (port_len (takers g e.to.owner) e.to.port) none in
      let s = spot_of e.to.owner e.to.port y.0 y.1 in
      let b = spot_below g placed rows e.to.owner e.to.port s.0 s.1 in
      let l : s.0 < length marks = omega arith in
      subst (λ (ts : List Edge). AreMarked g (mark_at marks o) ts) (sym (next es i e at lt))
      (subst (λ (o : Option ℕ). AreMarked g (mark_at marks o) (take i es ++ e ∷ [])) (sym (is ∙ s.1))
      (more_marked g placed rows marks (take i es) e s.0 s.1 l h))
