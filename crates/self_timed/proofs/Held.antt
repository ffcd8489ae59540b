-- Copies that acts of a valid schedule read and make: their operations are there, and so are their operators.
use Rattle.std.proofs.Common.{◌≡◌, ℕ, zero, suc, ◌+◌, ◌<◌, true, List, [], ◌∷◌, length, map, Option, Some, refl, ap, arith, ◌∙◌}
use Rattle.std.specs.Prelude.{slice_get, All}
use Rattle.std.proofs.lemmas.List.Elements.{All-nil, All-cons}
use Rattle.std.proofs.lemmas.Option.{same_Some, slice_get_within}
use Rattle.sequence_build_laws.specs.declared.Source.{Source}
use Rattle.sequence_build_laws.specs.declared.Guard.{Guard}
use Rattle.sequence_build_laws.specs.declared.Vertex.{Vertex}
use Rattle.sequence_build_laws.specs.Graph.{Graph}
use Rattle.sequence_build_laws.specs.FlatValid.{is_flat}
use Rattle.sequence_build_laws.specs.Archi.{Architecture, is_archi}
use Rattle.sequence_build_laws.specs.declared.Transfer.{Transfer}
use Rattle.sequence_build_laws.specs.declared.Decision.{Decision}
use Rattle.sequence_build_laws.specs.declared.Schedule.{Schedule}
use Rattle.sequence_build_laws.specs.Acts.{Act, carry, run, acts, acts_of, Copy, copy, outputs_of, sources_of, read_by, made_by}
use Rattle.sequence_build_laws.specs.ScheduleValid.{is_valid}
use Rattle.sequence_build_laws.proofs.Archis.{few_operators, few_media, below}
use Rattle.sequence_build_laws.proofs.Copies.{few_outputs}
use Rattle.sequence_build_laws.proofs.Lists.{from_map, map_at, get_before, get_past}
use Rattle.sequence_build_laws.proofs.Works.{read_made, origin, of_transfer, of_run, output_of}
use Rattle.self_timed.specs.Lines.{IsLine, line_of}
use Rattle.self_timed.specs.Laid.{IsHeld, IsCarried, IsPlaced, IsDecided}

-- what holds of each element by number holds of all
pub all_from : {A : Type 0} (P : A → Type 0) (xs : List A) → ((i : ℕ) (x : A) → slice_get xs i ≡ Some x → P x) → All P xs
all_from P [] h = All-nil P
all_from P (x ∷ xs) h = All-cons P x xs (h 0 x refl) (all_from P xs (λ i y e. h (suc i) y e))

module _ (g : Graph) (a : Architecture) (ticks : ℕ → ℕ → Option ℕ) (s : Schedule) (flat : is_flat g ≡ true) (archi : is_archi a.operators a.media ≡ true) (valid : is_valid g a ticks s ≡ true) where
  low_operator : (o : ℕ) → o < length a.operators → o < 16
  low_operator o l = let few = few_operators a archi in omega arith

  -- of a made copy
  pub held_made : (i h : ℕ) (x : Act) (c : Copy) → slice_get (acts s) i ≡ Some x → slice_get (made_by g.vertices x) h ≡ Some c → IsHeld g.vertices c
  held_made i h x c e m =
      let o = origin g a ticks s valid i h x c e m in
      let r = output_of o.it.op (slice_get g.vertices o.it.op) o.output c.source o.is in
      let within = slice_get_within r.2.outs o.output r.4 r.5 in
      let port = r.1 in
      record { it = r.2; there = ap (slice_get g.vertices) r.0 ∙ r.3; port = omega arith; operator = low_operator c.operator (on x e m) }
    where
      on : (x : Act) → slice_get (acts s) i ≡ Some x → slice_get (made_by g.vertices x) h ≡ Some c → c.operator < length a.operators
      on (carry t) e m = made_there h m
        where
          made_there : (h : ℕ) → slice_get (made_by g.vertices (carry t)) h ≡ Some c → c.operator < length a.operators
          made_there zero m =
              let f = of_transfer g a ticks s valid i t e in
              let l = below a archi t.medium t.to f.medium f.there f.to in
              let same = ap (λ (d : Copy). d.operator) (same_Some (copy t.to t.source) c m) in
              omega arith
          made_there (suc h) m = absurd cc
      on (run d) e m =
          let r = from_map (copy d.operator) (outputs_of d.op (slice_get g.vertices d.op)) h c m in
          let l = (of_run g a ticks s valid i d e).low in
          let same = ap (λ (d : Copy). d.operator) r.is in
          omega arith

  pub held_read : (i k : ℕ) (x : Act) (c : Copy) → slice_get (acts s) i ≡ Some x → slice_get (read_by g.vertices x) k ≡ Some c → IsHeld g.vertices c
  held_read i k x c e r = let b = read_made g a ticks s valid i k x c e r in held_made b.at b.inner b.act c b.stands b.made

  pub lined : (i : ℕ) (x : Act) → slice_get (acts s) i ≡ Some x → IsLine (line_of x)
  lined i (carry t) e =
      let f = of_transfer g a ticks s valid i t e in
      let l = slice_get_within a.media t.medium f.medium f.there in
      let few = few_media a archi in
      omega arith
  lined i (run d) e = low_operator d.operator (of_run g a ticks s valid i d e).low

  carried : (i : ℕ) (t : Transfer) → slice_get (acts s) i ≡ Some (carry t) → IsCarried g.vertices t
  carried i t e = record { from = held_read i 0 (carry t) (copy t.from t.source) e refl; to = held_made i 0 (carry t) (copy t.to t.source) e refl }

  placed : (i : ℕ) (d : Decision) → slice_get (acts s) i ≡ Some (run d) → IsPlaced g.vertices d
  placed i d e =
      let r = of_run g a ticks s valid i d e in
      record {
        it = r.vertex;
        there = r.there;
        outs = few_outputs g flat d.op r.vertex r.there;
        operator = low_operator d.operator r.low;
        guards = all_from (λ (x : Guard). IsHeld g.vertices (copy d.operator x.source)) r.vertex.guards (λ k x h. reads r.vertex r.there k x.source
            (get_before (map (λ (w : Guard). w.source) r.vertex.guards) r.vertex.ins k x.source (map_at (λ (w : Guard). w.source) r.vertex.guards k x h)));
        inputs = all_from (λ x. IsHeld g.vertices (copy d.operator x)) r.vertex.ins (λ k x h. reads r.vertex r.there (length (map (λ (w : Guard). w.source) r.vertex.guards) + k) x
            (get_past (map (λ (w : Guard). w.source) r.vertex.guards) r.vertex.ins k ∙ h));
      }
    where
      reads : (v : Vertex) → slice_get g.vertices d.op ≡ Some v → (k : ℕ) (x : Source) → slice_get (sources_of (Some v)) k ≡ Some x → IsHeld g.vertices (copy d.operator x)
      reads v there k x h = held_read i k (run d) (copy d.operator x) e
          (map_at (copy d.operator) (sources_of (slice_get g.vertices d.op)) k x (ap (λ (o : Option Vertex). slice_get (sources_of o) k) there ∙ h))

  decided_of : (ds : List Decision) → ((i : ℕ) (x : Act) → slice_get (acts_of ds) i ≡ Some x → (j : ℕ) × (slice_get (acts s) j ≡ Some x)) → All (IsDecided g.vertices) ds
  decided_of [] h = All-nil (IsDecided g.vertices)
  decided_of (d ∷ ds) h = All-cons (IsDecided g.vertices) d ds
      (record {
        carried = all_from (IsCarried g.vertices) d.transfers (λ k t q.
            let j = h k (carry t) (get_before (map carry d.transfers) (run d ∷ acts_of ds) k (carry t) (map_at carry d.transfers k t q)) in carried j.0 t j.1);
        placed = (let j = h (length (map carry d.transfers) + 0) (run d) (get_past (map carry d.transfers) (run d ∷ acts_of ds) 0) in placed j.0 d j.1);
      })
      (decided_of ds (λ i x e. h (length (map carry d.transfers) + suc i) x (get_past (map carry d.transfers) (run d ∷ acts_of ds) (suc i) ∙ e)))

  pub decided : All (IsDecided g.vertices) s.decisions
  decided = decided_of s.decisions (λ i x e. (i, e))
