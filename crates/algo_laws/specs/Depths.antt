-- What depths say of the definitions that a definition names, where every name is known and none reaches itself.
use Rattle.std.specs.Prelude.{◌≡◌, ℕ, ◌<◌, List, None, Some}
use Rattle.std.specs.List.{All, position_or_len}
use Rattle.std.specs.Str.{bytes_eq}
use Rattle.syn_base.specs.Bytes.{Bytes}
use Rattle.algo_rules.specs.declared.Def.{Def}
use Rattle.algo_rules.specs.ReferenceLinks.{depth}
use Rattle.algo_rules.specs.Links.{definition, mentions, links_of, unknown, recursive, too_deep}
use Rattle.algo_rules.specs.Ports.{ports_by, ports_of}

-- Where the definition of a name stands.
abbrev pub place_of : List Def → Bytes → ℕ
place_of ds w = position_or_len (λ e. bytes_eq w e.name) ds

-- How deep the definition of a name is.
abbrev pub rank : List Def → Bytes → ℕ
rank ds w = depth (links_of ds) (place_of ds w)

-- Each definition that a definition names is less deep than it is.
abbrev pub NamedAreLessDeep : Type 0
NamedAreLessDeep =
    (ds : List Def) → unknown ds ≡ None → recursive ds ≡ None →
    (w : Bytes) (d : Def) → definition ds w ≡ Some d →
    All (λ m. rank ds m.def < rank ds w) (mentions d)

-- The ports of a definition are those that its body has by the ports of the definitions that the body names.
abbrev pub PortsFollowFromBodies : Type 0
PortsFollowFromBodies =
    (ds : List Def) → unknown ds ≡ None → recursive ds ≡ None → too_deep ds ≡ None →
    (w : Bytes) (d : Def) → definition ds w ≡ Some d →
    ports_of ds w ≡ ports_by (ports_of ds) d.body
