-- The definitions that a definition names stand at their places, and their ports in the table.
use Rattle.std.proofs.Common.{◌≡◌, ℕ, zero, suc, ◌+◌, ◌<◌, Bool, true, false, List, [], ◌∷◌, drop, length, get_or, map, Some, if◌then◌else◌, refl, ap, sym, subst, ◌∙◌, arith}
use Rattle.std.specs.Prelude.{slice_get}
use Rattle.std.specs.Str.{bytes_eq}
use Rattle.std.proofs.lemmas.Slice.Eq.{bytes_eq-Decides}
use Rattle.std.proofs.lemmas.List.{get_or_default}
use Rattle.std.proofs.lemmas.Option.{slice_get-get_or}
use Rattle.syn_base.specs.Bytes.{Bytes}
use Rattle.algo_check.specs.Linked.{AreLinked, IsLinked, named}
use Rattle.algo_check.proofs.Fresh.{from_here}
use Rattle.algo_check.proofs.Leading.{all_lead}
use Rattle.algo_check.proofs.Here.{found_at}
use Rattle.algo_check.proofs.Inside.{as_many, links_count, there}
use Rattle.algo_laws.specs.declared.Def.{Def}
use Rattle.algo_laws.specs.declared.Reference.{Reference}
use Rattle.algo_laws.specs.RuleLinks.{definition, links_of}
use Rattle.algo_laws.specs.Placed.{IsPlaced, ArePlaced}
use Rattle.algo_laws.specs.Ports.{no_ports, ports_of}
use Rattle.algo_laws.specs.declared.Ports.{Ports}
use Rattle.algo_laws.specs.ReferenceLinks.{Links}
use Rattle.algo_resolve.specs.Ready.{IsReady}

-- the first definition of a name
pub first_here : (ds : List Def) (i : ℕ) (d : Def) (w : Bytes) → i < length ds → d ≡ get_or ds i d → bytes_eq w d.name ≡ true
    → definition (drop i ds) w ≡ definition ds w → definition ds w ≡ slice_get ds i
first_here ds i d w low is same rest =
    sym rest
    ∙ ap (λ (xs : List Def). definition xs w) (from_here ds i d low is)
    ∙ ap (λ (b : Bool). if b then Some d else definition (drop (i + 1) ds) w) same
    ∙ sym (found_at ds i d low is)

-- a definition has the name by which it is found
pub same_name : (ds : List Def) (w : Bytes) (d : Def) → definition ds w ≡ Some d → w ≡ d.name
same_name [] w d h = cc
same_name (e ∷ ds) w d h = by (same_name ds w d) (bytes_eq w e.name) refl h
  where
    by : (definition ds w ≡ Some d → w ≡ d.name) → (b : Bool) → bytes_eq w e.name ≡ b → (if b then Some e else definition ds w) ≡ Some d → w ≡ d.name
    by rest true is k = let same : e ≡ d = cc in (bytes_eq-Decides w e.name).0 is ∙ ap (λ (x : Def). x.name) same
    by rest false is k = rest k

mapped : {A : Type 0} (f : A → Ports) (xs : List A) (i : ℕ) (x : A) → slice_get xs i ≡ Some x → get_or (map f xs) i no_ports ≡ f x
mapped f [] i x h = cc
mapped f (y ∷ ys) zero x h = let same : y ≡ x = cc in ap f same
mapped f (y ∷ ys) (suc i) x h = mapped f ys i x h

module _ (ds : List Def) (table : List Ports) (is : table ≡ map (λ d. ports_of ds d.name) ds) where
  pub one_placed : (w : Bytes) (p : ℕ) → IsLinked ds w p → IsPlaced ds table w p
  one_placed w p l =
      let at = there ds p l.below in
      record {
        below = l.below;
        in_table = omega (arith, l.below, ap (λ (t : List Ports). length t) is, as_many (λ (d : Def). ports_of ds d.name) ds);
        found = l.found;
        ports =
            ap (λ (t : List Ports). get_or t p no_ports) is ∙ mapped (λ d. ports_of ds d.name) ds p at.0 at.1
            ∙ ap (ports_of ds) (sym (same_name ds w at.0 (l.found ∙ at.1)));
      }

  -- a definition that was found by its name
  pub found_placed : (w : Bytes) (p : ℕ) (d : Def) → p < length ds → definition ds w ≡ slice_get ds p → d ≡ get_or ds p d → (w ≡ d.name) × IsPlaced ds table d.name p
  found_placed w p d low found here =
      let same : w ≡ d.name = same_name ds w d (found ∙ found_at ds p d low here) in
      (same, subst (λ (v : Bytes). IsPlaced ds table v p) same (one_placed w p (record { below = low; found = found })))

  all_placed : (ws : List Bytes) (ps : List ℕ) → AreLinked ds ws ps → ArePlaced ds table ws ps
  all_placed [] [] h = tt
  all_placed [] (p ∷ ps) h = h
  all_placed (w ∷ ws) [] h = h
  all_placed (w ∷ ws) (p ∷ ps) h = (one_placed w p h.0, all_placed ws ps h.1)

module _ (ds : List Def) (links : Links) (table : List Ports) (ready : IsReady ds links table) where
  pub many_links : length links ≡ length ds
  many_links = ap (λ (ls : Links). length ls) ready.linked ∙ links_count ds

  -- what was taken out of the links
  pub places_linked : (i : ℕ) (d : Def) (row : List ℕ) → i < length ds → slice_get ds i ≡ Some d → row ≡ get_or links i row → AreLinked ds (named d.body) row
  places_linked i d row low at is =
      let many : i < length links = omega (arith, low, many_links) in
      let same : row ≡ get_or (links_of ds) i [] = is ∙ get_or_default links i row [] many ∙ ap (λ (ls : Links). get_or ls i []) ready.linked in
      subst (λ (ps : List ℕ). AreLinked ds (named d.body) ps) (sym same) (all_lead ds i d ready.known at)

  pub places_stand : (i : ℕ) (d : Def) (row : List ℕ) → i < length ds → slice_get ds i ≡ Some d → row ≡ get_or links i row → ArePlaced ds table (named d.body) row
  places_stand i d row low at is =
      let many : i < length links = omega (arith, low, many_links) in
      let same : row ≡ get_or (links_of ds) i [] = is ∙ get_or_default links i row [] many ∙ ap (λ (ls : Links). get_or ls i []) ready.linked in
      subst (λ (ps : List ℕ). ArePlaced ds table (named d.body) ps) (sym same) (all_placed ds table ready.ports (named d.body) (get_or (links_of ds) i []) (all_lead ds i d ready.known at))

module _ (ds : List Def) (table : List Ports) where
  -- what stands at the place of a name
  pub def_at : (w : Bytes) (p : ℕ) (d : Def) → IsPlaced ds table w p → definition ds w ≡ Some (get_or ds p d)
  def_at w p d h = h.found ∙ slice_get-get_or ds p d h.below

  pub ports_at : (w : Bytes) (p : ℕ) (own : Ports) → IsPlaced ds table w p → get_or table p own ≡ ports_of ds w
  ports_at w p own h = get_or_default table p own no_ports h.in_table ∙ h.ports

  -- the places of references
  pub place_there : (rs : List Reference) (ps : List ℕ) → ArePlaced ds table (map (λ r. r.def) rs) ps → (k : ℕ) → k < length rs → k < length ps
  place_there [] ps h k low = absurd (omega (arith, low))
  place_there (r ∷ rs) [] h k low = absurd h
  place_there (r ∷ rs) (p ∷ ps) h zero low = omega arith
  place_there (r ∷ rs) (p ∷ ps) h (suc k) low = let more = place_there rs ps h.1 k (omega (arith, low)) in omega (arith, more)

  pub place_at : (rs : List Reference) (ps : List ℕ) → ArePlaced ds table (map (λ r. r.def) rs) ps → (k : ℕ) (r : Reference) → k
      < length rs → r ≡ get_or rs k r → IsPlaced ds table r.def (get_or ps k 0)
  place_at [] ps h k r low is = absurd (omega (arith, low))
  place_at (s ∷ rs) [] h k r low is = absurd h
  place_at (s ∷ rs) (p ∷ ps) h zero r low is = subst (λ (x : Reference). IsPlaced ds table x.def p) (sym is) h.0
  place_at (s ∷ rs) (p ∷ ps) h (suc k) r low is = place_at rs ps h.1 k r (omega (arith, low)) is
