-- The definitions of cases at their places, one by one.
use Rattle.std.proofs.Common.{◌≡◌, ℕ, zero, suc, ◌<◌, List, [], ◌∷◌, ◌++◌, length, map, get_or, refl, ap, sym, ◌∙◌, arith}
use Rattle.syn_base.specs.Bytes.{Bytes}
use Rattle.algo_rules.specs.declared.Case.{Case}
use Rattle.algo_rules.specs.declared.Def.{Def}
use Rattle.algo_rules.specs.Placed.{IsPlaced, ArePlaced}
use Rattle.algo_rules.specs.Ports.{no_ports, ports_of}
use Rattle.algo_rules.specs.declared.ports.Ports.{Ports}

module _ (ds : List Def) (table : List Ports) (otherwise : Bytes) where
  -- the cases and `otherwise` stand at these places
  abbrev pub Stand : List Case → List ℕ → Type 0
  Stand cs ps = ArePlaced ds table (map (λ c. c.def) cs ++ otherwise ∷ []) ps

  pub one_more : (cs : List Case) (ps : List ℕ) → Stand cs ps → length ps ≡ suc (length cs)
  one_more [] [] h = absurd h
  one_more [] (p ∷ []) h = refl
  one_more [] (p ∷ q ∷ ps) h = absurd h.1
  one_more (c ∷ cs) [] h = absurd h
  one_more (c ∷ cs) (p ∷ ps) h = ap suc (one_more cs ps h.1)

  pub case_at : (cs : List Case) (ps : List ℕ) (i : ℕ) (d : Case) → Stand cs ps → i < length cs → IsPlaced ds table (get_or cs i d).def (get_or ps i 0)
  case_at [] ps i d h below = absurd (omega arith)
  case_at (c ∷ cs) [] i d h below = absurd h
  case_at (c ∷ cs) (p ∷ ps) zero d h below = h.0
  case_at (c ∷ cs) (p ∷ ps) (suc i) d h below = case_at cs ps i d h.1 (omega arith)

  pub otherwise_at : (cs : List Case) (ps : List ℕ) → Stand cs ps → IsPlaced ds table otherwise (get_or ps (length cs) 0)
  otherwise_at [] [] h = absurd h
  otherwise_at [] (p ∷ ps) h = h.0
  otherwise_at (c ∷ cs) [] h = absurd h
  otherwise_at (c ∷ cs) (p ∷ ps) h = otherwise_at cs ps h.1

  -- the ports of the case that stands here
  pub ports_here : (cs : List Case) (ps : List ℕ) (i : ℕ) (c : Case) (p : Ports) → Stand cs ps → i < length cs → c ≡ get_or cs i c → p ≡ get_or table (get_or ps i 0) no_ports → p ≡ ports_of ds c.def
  ports_here cs ps i c p h below here found =
      found ∙ (case_at cs ps i c h below).ports ∙ ap (λ (k : Case). ports_of ds k.def) (sym here)
