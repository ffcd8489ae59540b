-- What comes into the ports of an owner comes by the edges into this owner.
use Rattle.std.proofs.Common.{◌≡◌, Bool, true, false, ◌&&◌, List, [], ◌∷◌, map, Option, refl, ap, ap₂, if◌then◌else◌}
use Rattle.std.specs.Str.{bytes_eq}
use Rattle.body_lang.specs.declared.expression.Port.{Port}
use Rattle.syn_base.specs.Bytes.{Bytes}
use Rattle.algo_laws.specs.declared.Source.{Source}
use Rattle.algo_laws.specs.declared.Reference.{Reference}
use Rattle.algo_laws.specs.declared.Edge.{Edge}
use Rattle.algo_laws.specs.Graphs.{same_owner}
use Rattle.algo_laws.specs.Resolved.{source_from, source_to, sources_to}
use Rattle.algo_laws.specs.declared.Ports.{Ports}
use Rattle.algo_resolve.specs.Wiring.{into, source_among}

module _ (of : Bytes → Ports) (ins : List Port) (references : List Reference) (owner : Option Bytes) where
  one_source : (w : Bytes) (es : List Edge) → source_among of ins references (into owner es) w ≡ source_to of ins references es (record { owner = owner; port = w })
  one_source w [] = refl
  one_source w (e ∷ es) = by (same_owner e.to.owner owner) (bytes_eq e.to.port w) (one_source w es)
    where
      by : (s b : Bool) → source_among of ins references (into owner es) w ≡ source_to of ins references es (record { owner = owner; port = w })
          → source_among of ins references (if s then e ∷ into owner es else into owner es) w
          ≡ (if s && bytes_eq e.to.port w then source_from of ins references e.from.owner e.from.port else source_to of ins references es (record { owner = owner; port = w }))
      by true b rest = ap (λ (x : Source). if bytes_eq e.to.port w then source_from of ins references e.from.owner e.from.port else x) rest
      by false b rest = rest

  pub sources_by_owner : (es : List Edge) (ps : List Port) → map (λ p. source_among of ins references (into owner es) p.name) ps ≡ sources_to of ins references es owner ps
  sources_by_owner es [] = refl
  sources_by_owner es (p ∷ ps) = ap₂ (λ (x : Source) (xs : List Source). x ∷ xs) (one_source p.name es) (sources_by_owner es ps)
