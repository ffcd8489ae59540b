-- Each operation of the flat list has guards, inputs and outputs of the lengths that its vertex has in the tree.
use Rattle.std.proofs.Common.{◌≡◌, ℕ, zero, suc, ◌+◌, List, [], ◌∷◌, ◌++◌, length, map, true, Option, Some, None, slice_get, slice_index_or, refl, sym, ap, ◌∙◌, subst, arith}
use Rattle.algo_tree.specs.declared.Source.{Source}
use Rattle.algo_tree.specs.declared.Source.TheVariants.{Own}
use Rattle.algo_tree.specs.declared.Guard.{Guard}
use Rattle.algo_tree.specs.Level.{Path}
use Rattle.algo_tree.specs.Tree.{Label, Kind, sensor, actuator, constant, delay, function, explode, implode, merge, graph, switch, repeat, Vertex, vertex, Vertices, no_vertices, and_vertex}
use Rattle.algo_tree.specs.Meaning.{nodes}
use Rattle.algo_tree.specs.Typed.{AreGroups, AreLengths, AreGuardsTyped, label_of, outs_of, source_length, IsKindTyped, IsTyped, AllTyped, IsBodyTyped}
use Rattle.algo_tree.specs.Valid.{IsTree}
use Rattle.algo_tree.specs.Counted.{operations as count}
use Rattle.flat_laws.specs.Flat.{Operation, Task, runs, gets, sets, is_get}
use Rattle.flat_laws.specs.Inlined.{wire, wirings, wire_guard, operation_of, stage_input, stages, inlined_by, inlined, inlined_all, operations}
use Rattle.flat_laws.specs.Plain.{IsPlain}
use Rattle.flat_laws.proofs.Inlinable.{IsKindInlinable, CanInline, AllCanInline, can_inline}
use Rattle.algo_tree.proofs.Lists.{map_map}
use Rattle.flat_laws.proofs.Wires.{long-inlined}
use Rattle.flat_laws.proofs.Lengths.{same_map, Outs, outs-left, outs-right, at_same, Measures, measures-all}
use Rattle.syn_base.specs.Vectors.{Vector}

-- the inputs and outputs of an operation that does what a vertex of this kind does
abbrev pub IsRun : Kind → List ℕ → List ℕ → Type 0
IsRun k lens outs = IsKindTyped k lens outs [] (λ own inner. ⊥) (λ fed. ⊥)

-- a set half takes what its get half gives
abbrev pub IsHalf : Option Operation → List ℕ → Type 0
IsHalf None lens = ⊥
IsHalf (Some get) lens = (is_get get.task ≡ true) × (lens ≡ get.outs)

abbrev pub IsTaskFit : Task → Option Operation → List ℕ → List ℕ → Type 0
IsTaskFit (runs k) before lens outs = IsRun k lens outs
IsTaskFit (gets v) before lens outs = (lens ≡ []) × (outs ≡ length v ∷ [])
IsTaskFit sets before lens outs = (outs ≡ []) × IsHalf before lens

module _ (long : Source → ℕ) where
  -- an operation after this one, where there is one
  pub record IsFit (before : Option Operation) (op : Operation) : Type 0 where
    pub guards : AreGuardsTyped long op.guards
    pub ins : AreLengths (map long op.ins)
    pub outs : AreLengths op.outs
    pub task : IsTaskFit op.task before (map long op.ins) op.outs

  abbrev pub AllFit : Option Operation → List Operation → Type 0
  AllFit before [] = Unit {0}
  AllFit before (op ∷ ops) = IsFit before op × AllFit (Some op) ops

  fit-append : (before : Option Operation) (xs ys : List Operation) → AllFit before xs → ((b : Option Operation) → AllFit b ys) → AllFit before (xs ++ ys)
  fit-append before [] ys h k = k before
  fit-append before (x ∷ xs) ys h k = (h.0, fit-append (Some x) xs ys h.1 k)

  guards-wired : (W : Source → Source) (len : Source → ℕ) → ((s : Source) → long (W s) ≡ len s) → (gs : List Guard) → AreGuardsTyped len gs → AreGuardsTyped long (map (wire_guard W) gs)
  guards-wired W len all [] h = tt
  guards-wired W len all (g ∷ gs) h = ((all g.source ∙ h.0.0, h.0.1), guards-wired W len all gs h.1)

  lens-wired : (W : Source → Source) (len : Source → ℕ) → ((s : Source) → long (W s) ≡ len s) → (ss : List Source) → map long (map W ss) ≡ map len ss
  lens-wired W len all ss = map_map long W ss ∙ same_map (λ s. long (W s)) len all ss

  module _ (none : (k : ℕ) → long (Own k) ≡ 0) where
    module _ (W : Source → Source) (b : ℕ) (at : Path → Path) (l : Label) (us : Vertices) (len : Source → ℕ)
        (all : (s : Source) → long (W s) ≡ len s) (guards : AreGuardsTyped len l.guards) (lengths : AreLengths (map len l.ins) × AreLengths l.outs) where
      abbrev inside : List Source → ℕ → (Path → Path) → List Operation
      inside own c below = inlined_all (wire (wirings c us) own) c below us

      abbrev Deeper : Type 0
      Deeper = (own : List Source) (lens : List ℕ) (c : ℕ) (below : Path → Path) → AllTyped lens (outs_of us) us → ((s : Source) → long (wire (wirings c us) own s) ≡ source_length lens (outs_of us) s)
          → Outs long none c (inside own c below) → (before : Option Operation) → AllFit before (inside own c below)

      one : (k : Kind) → IsRun k (map len l.ins) l.outs → (before : Option Operation) → AllFit before (operation_of W (at (l.part ∷ [])) 0 l (map W l.ins) l.outs (runs k) ∷ [])
      one k t before = (
        record {
          guards = guards-wired W len all l.guards guards;
          ins = subst AreLengths (sym (lens-wired W len all l.ins)) lengths.0;
          outs = lengths.1;
          task = subst (λ ns. IsRun k ns l.outs) (sym (lens-wired W len all l.ins)) t;
        },
        tt,
      )

      -- what a stage takes has the length of its output
      stage-lens : (c i : ℕ) (v : Vector) (vs : List Vector) → Outs long none (c + 2) (stages W (c + 2) (at (l.part ∷ [])) l (suc i) vs)
          → map len l.ins ≡ l.outs → l.outs ≡ length v ∷ [] → map long (stage_input c (map W l.ins) vs) ≡ l.outs
      stage-lens c i v [] m e t = lens-wired W len all l.ins ∙ e
      stage-lens c i v (w ∷ vs) m e t = ap (λ n. n ∷ []) (m.0 0) ∙ ap (λ (ns : List ℕ). slice_index_or ns 0 0 ∷ []) t ∙ sym t

      fit-stages : (c i : ℕ) (vs : List Vector) → Outs long none c (stages W c (at (l.part ∷ [])) l i vs) → map len l.ins ≡ l.outs
          → AreGroups l.outs vs → (before : Option Operation) → AllFit before (stages W c (at (l.part ∷ [])) l i vs)
      fit-stages c i [] m e t before = tt
      fit-stages c i (v ∷ vs) m e t before =
          let two : suc (suc c) ≡ c + 2 = omega arith in
          let rest = subst (λ n. Outs long none n (stages W (c + 2) (at (l.part ∷ [])) l (suc i) vs)) two m.1.1 in
          let taken = stage-lens c i v vs rest e t.0 in (
            record { guards = guards-wired W len all l.guards guards; ins = tt; outs = lengths.1; task = (refl, t.0) },
            (
              record {
                guards = guards-wired W len all l.guards guards;
                ins = subst AreLengths (sym taken) lengths.1;
                outs = tt;
                task = (refl, (refl, taken));
              },
              fit-stages (c + 2) (suc i) vs rest e t.1 (Some (operation_of W (at (l.part ∷ [])) i l (stage_input c (map W l.ins) vs) [] sets)),
            ),
          )

      fit-by : Measures long none us → Deeper → (k : Kind) → Outs long none b (inlined_by W b at l k inside) → IsKindInlinable k l.guards (nodes us)
          → IsKindTyped k (map len l.ins) l.outs (outs_of us) (λ own outs. AllTyped own outs us) (λ fed. IsBodyTyped fed us)
          → (before : Option Operation) → AllFit before (inlined_by W b at l k inside)
      fit-by measures deeper (graph sources) m h t before =
          deeper (map W l.ins) (map len l.ins) b (λ q. at (l.part ∷ q)) t.0
          (measures (map W l.ins) (map len l.ins) b (λ q. at (l.part ∷ q)) h.1.0 t.0 (at_same long none W len l.ins (same_map (λ s. long (W s)) len all l.ins)) m) m before
      fit-by measures deeper (switch values names) m h t before = absurd h
      fit-by measures deeper (repeat n feeds gives) m h t before = absurd h
      fit-by measures deeper (delay vs) m h t before = fit-stages b 0 vs m t.0 t.1.1 before
      fit-by measures deeper (sensor n) m h t before = one (sensor n) t before
      fit-by measures deeper (actuator n) m h t before = one (actuator n) t before
      fit-by measures deeper (constant v) m h t before = one (constant v) t before
      fit-by measures deeper (function es) m h t before = one (function es) t before
      fit-by measures deeper explode m h t before = one explode t before
      fit-by measures deeper implode m h t before = one implode t before
      fit-by measures deeper (merge values) m h t before = one (merge values) t before

    mutual
      fit-vertex : (W : Source → Source) (b : ℕ) (at : Path → Path) (u : Vertex) (len : Source → ℕ) → CanInline u
          → ((s : Source) → long (W s) ≡ len s) → AreGuardsTyped len (label_of u).guards → IsTyped (map len (label_of u).ins) u
          → Outs long none b (inlined W b at u) → (before : Option Operation) → AllFit before (inlined W b at u)
      fit-vertex W b at (vertex l us) len h all guards t m before =
          fit-by W b at l us len all guards t.0 (measures-all long none us h.1)
          (λ own lens c below typed same outs p. fit-all (wire (wirings c us) own) c below us lens (outs_of us) h.1 typed same outs p) l.kind m h.0 t.1 before

      fit-all : (W : Source → Source) (b : ℕ) (at : Path → Path) (us : Vertices) (lens : List ℕ) (outs : List (List ℕ)) → AllCanInline us
          → AllTyped lens outs us → ((s : Source) → long (W s) ≡ source_length lens outs s)
          → Outs long none b (inlined_all W b at us) → (before : Option Operation) → AllFit before (inlined_all W b at us)
      fit-all W b at no_vertices lens outs h t all m before = tt
      fit-all W b at (and_vertex u us) lens outs h t all m before =
          fit-append before (inlined W b at u) _
          (fit-vertex W b at u (source_length lens outs) h.0 all t.0.0 t.0.1 (outs-left long none b (inlined W b at u) _ m) before)
          (λ p. fit-all W (b + count u) at us lens outs h.1 t.1 all
          (subst (λ n. Outs long none (b + n) (inlined_all W (b + count u) at us)) (long-inlined W b at u h.0)
          (outs-right long none b (inlined W b at u) _ m)) p)

    fit-level : (l : Label) (us : Vertices) → l.kind ≡ graph [] → CanInline (vertex l us) → IsTyped [] (vertex l us)
        → Outs long none 0 (operations (vertex l us)) → AllFit None (operations (vertex l us))
    fit-level l us e h t m =
        let typed = (subst (λ k. IsKindTyped k [] l.outs (outs_of us) (λ own outs. AllTyped own outs us) (λ fed. IsBodyTyped fed us)) e t.1).0 in
        let level = subst (λ k. IsKindInlinable k l.guards (nodes us)) e h.0 in
        fit-all (wire (wirings 0 us) []) 0 (λ q. q) us [] (outs_of us) h.1 typed (measures-all long none us h.1 [] [] 0 (λ q. q) level.1.0 typed (λ k. none 0) m) m None

    pub fit-main : (main : Vertex) → IsTree main → IsPlain main → Outs long none 0 (operations main) → AllFit None (operations main)
    fit-main (vertex l us) h plain m = fit-level l us h.portless.kind (can_inline [] (vertex l us) h.well h.typed plain) h.typed m

  -- the operation of one number, and the one before it
  pub fit-first : (ops : List Operation) (op : Operation) → AllFit None ops → slice_get ops 0 ≡ Some op → IsFit None op
  fit-first [] op h is = absurd (cc)
  fit-first (x ∷ ops) op h is = let e : x ≡ op = cc in subst (IsFit None) e h.0

  pub fit-at : (before : Option Operation) (ops : List Operation) → AllFit before ops → (u : ℕ) (p op : Operation) → slice_get ops u ≡ Some p → slice_get ops (suc u) ≡ Some op → IsFit (Some p) op
  fit-at before [] h u p op was is = absurd (cc)
  fit-at before (x ∷ []) h u p op was is = absurd (cc)
  fit-at before (x ∷ (y ∷ ops)) h zero p op was is =
      let e : x ≡ p = cc in
      let f : y ≡ op = cc in
      subst (λ z. IsFit (Some z) op) e (subst (IsFit (Some x)) f h.1.0)
  fit-at before (x ∷ (y ∷ ops)) h (suc u) p op was is = fit-at (Some x) (y ∷ ops) h.1 u p op was is
