use Rattle.std.proofs.Common.{◌≡◌, ℕ, List, map, None, Result, Ok, Err, ap, sym, ◌∙◌}
use Rattle.std.specs.Prelude.{IfOk}
use Rattle.syn_base.specs.declared.memory.OutOfMemory.{OutOfMemory}
use Rattle.std.specs.List.{flat_map}
use Rattle.body_lang.specs.declared.expression.Port.{Port}
use Rattle.syn_base.specs.Bytes.{Bytes}
use Rattle.algo_laws.specs.declared.Kind.{Kind}
use Rattle.algo_laws.specs.View.{kind_view}
use Rattle.algo_laws.specs.declared.Source.{Source}
use Rattle.algo_laws.specs.Tree as tree
use Rattle.algo_laws.specs.declared.Def.{Def}
use Rattle.algo_laws.specs.declared.Body.{Body}
use Rattle.algo_laws.specs.declared.Body.TheVariants.{Graph, Repeat}
use Rattle.algo_laws.specs.declared.Reference.{Reference}
use Rattle.algo_laws.specs.declared.Edge.{Edge}
use Rattle.algo_laws.specs.declared.FrontierLine.{FrontierLine}
use Rattle.algo_laws.specs.Ports.{ports_of}
use Rattle.algo_laws.specs.Resolved.{Making, feed_of, give_by, kind_by, sources_to}
use Rattle.algo_laws.specs.declared.Ports.{Ports}
use Rattle.algo_resolve.proofs.checked.Checked.kind.Goals as goal

module _ (ds : List Def) (make : Making) (own : Ports) (body : Body) where
  of_graph : (ins ins' outs outs' : List Port) (references references' : List Reference) (edges edges' : List Edge) (sources : List Source)
      → body ≡ Graph ins' outs' references' edges' → ins ≡ ins' → outs ≡ outs' → references ≡ references' → edges ≡ edges'
      → sources ≡ sources_to (ports_of ds) ins references edges None outs
      → tree.graph sources ≡ kind_by ds make own 0 0 body
  of_graph ins ins' outs outs' references references' edges edges' sources is first second third fourth told =
      ap (λ (s : List Source). tree.graph s) told
      ∙ ap (λ (ps : List Port). tree.graph (sources_to (ports_of ds) ps references edges None outs)) first
      ∙ ap (λ (ps : List Port). tree.graph (sources_to (ports_of ds) ins' references edges None ps)) second
      ∙ ap (λ (rs : List Reference). tree.graph (sources_to (ports_of ds) ins' rs edges None outs')) third
      ∙ ap (λ (es : List Edge). tree.graph (sources_to (ports_of ds) ins' references' es None outs')) fourth
      ∙ ap (kind_by ds make own 0 0) (sym is)

  of_repeat : (copies : ℕ) (def : Bytes) (lines : List FrontierLine) (inner : Ports) (kind : tree.Kind)
      → body ≡ Repeat copies def lines → inner ≡ ports_of ds def
      → kind ≡ tree.repeat copies (map (λ p. feed_of inner own lines p.name) inner.ins) (flat_map (λ l. give_by inner own l.frontier) lines)
      → kind ≡ kind_by ds make own 0 0 body
  of_repeat copies def lines inner kind is placed told =
      told
      ∙ ap (λ (q : Ports). tree.repeat copies (map (λ p. feed_of q own lines p.name) q.ins) (flat_map (λ l. give_by q own l.frontier) lines)) placed
      ∙ ap (kind_by ds make own 0 0) (sym is)

pub returns-in_ok-sources_to-in-Graph : goal.returns-in_ok-sources_to-in-Graph
returns-in_ok-sources_to-in-Graph c = λ make.
    of_graph c.args.self.now.defs.now make c.args.own.now c.args.body.now
    _ _ _ _ _ _ _ _ _ c.in-Graph.is c.as_slice-in-Graph.ensures c.as_slice-in-Graph-4.ensures c.as_slice-in-Graph-2.ensures c.as_slice-in-Graph-3.ensures
    c.in_ok-sources_to-in-Graph.ensures

-- of a repetition that was made
repeat_told : (ds : List Def) (own : Ports) (body : Body) (result : Result Kind OutOfMemory) (copies : ℕ) (def : Bytes) (lines : List FrontierLine) (inner : Ports)
    → body ≡ Repeat copies def lines → inner ≡ ports_of ds def
    → IfOk result (λ k. kind_view k ≡ tree.repeat copies (map (λ p. feed_of inner own lines p.name) inner.ins) (flat_map (λ l. give_by inner own l.frontier) lines))
    → IfOk result (λ k. (make : Making) → kind_view k ≡ kind_by ds make own 0 0 body)
repeat_told ds own body (Ok k) copies def lines inner is placed told = λ make. of_repeat ds make own body copies def lines inner (kind_view k) is placed told
repeat_told ds own body (Err e) copies def lines inner is placed told = tt

pub returns-in-Repeat : goal.returns-in-Repeat
returns-in-Repeat c = repeat_told c.args.self.now.defs.now c.args.own.now c.args.body.now c.repeat_kind.result _ _ _ _ c.in-Repeat.is c.only.ensures c.repeat_kind.ensures
