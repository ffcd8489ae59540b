-- A pruned tree is no larger than its operations, its depth and its width allow.
use Rattle.std.proofs.Common.{
  ◌≡◌,
  ℕ,
  zero,
  suc,
  ◌+◌,
  ◌*◌,
  ◌==◌,
  ◌<◌,
  ◌≤◌,
  max,
  length,
  Bool,
  true,
  false,
  cond,
  refl,
  sym,
  ap,
  ◌∙◌,
  subst,
  arith,
  mul-add,
  suc-mul,
  mul_left_comm,
  mul-le-mul_left,
  mul-le-mul_right,
  le-mul_of_pos_right,
  mul-zero,
  mul-one,
}
use Rattle.std.proofs.lemmas.Bool.{false≢true}
use Rattle.algo_tree.specs.Tree.{Label, Kind, sensor, actuator, constant, delay, function, explode, implode, merge, graph, switch, repeat, Vertex, vertex, Vertices, no_vertices, and_vertex}
use Rattle.algo_tree.specs.Code.{count_of}
use Rattle.algo_tree.specs.Counted.{operations, operations_in, operations_by}
use Rattle.algo_tree.specs.Size.{made_by, vertices_made, vertices_made_in}
use Rattle.algo_tree.specs.Well.{fork_names, join_names, IsEmpty}
use Rattle.wiring_laws.specs.Wiring.{wiring}
use Rattle.wiring_laws.specs.Pruned.{passing, prune, prune_all}
use Rattle.wiring_laws.specs.Narrow.{IsKindNarrow, IsNarrow, AllNarrow, depth, depth_in}

-- what is allowed
abbrev room : ℕ → ℕ → ℕ → ℕ
room w d o = d * (suc w * o)

room-add : (w d a b : ℕ) → room w d (a + b) ≡ room w d a + room w d b
room-add w d a b = ap (λ x. d * x) (mul-add (suc w) a b) ∙ mul-add d (suc w * a) (suc w * b)

room-deeper : (w d e o : ℕ) → d ≤ e → room w d o ≤ room w e o
room-deeper w d e o h = mul-le-mul_right (suc w * o) h

room-more : (w d a b : ℕ) → a ≤ b → room w d a ≤ room w d b
room-more w d a b h = mul-le-mul_left d (mul-le-mul_left (suc w) h)

room-times : (w d n o : ℕ) → n * room w d o ≡ room w d (n * o)
room-times w d n o = mul_left_comm n d (suc w * o) ∙ ap (λ x. d * x) (mul_left_comm n (suc w) o)

room-level : (w d o : ℕ) → room w (suc d) o ≡ room w d o + (w * o + o)
room-level w d o = suc-mul d (suc w * o) ∙ ap (λ x. room w d o + x) (suc-mul w o)

-- a vertex whose inside is as large as that
flat-fits : (w d o inner cnt : ℕ) → inner ≤ cnt + room w d o → cnt ≤ w → 0 < o → suc inner ≤ suc (room w (suc d) o)
flat-fits w d o inner cnt h narrow some =
    let level = room-level w d o in
    let wide : w ≤ w * o = le-mul_of_pos_right w some in
    omega (arith, h, narrow, level, wide)

more-fits : (w d o more inner cnt : ℕ) → inner ≤ cnt + room w d o → cnt ≤ w → 0 < o + more → suc inner ≤ suc (room w (suc d) (o + more))
more-fits w d o more inner cnt h narrow some =
    let grown : room w d o ≤ room w d (o + more) = room-more w d o (o + more) (omega arith) in
    flat-fits w d (o + more) inner cnt (omega (arith, h, grown)) narrow some

copies-fit : (w n o f : ℕ) → (o ≡ 0 → n ≤ w) → 0 < f + n * o → n + f ≤ w * (f + n * o) + (f + n * o)
copies-fit w n zero f few some =
    let z : n * 0 ≡ 0 = mul-zero n in
    let total : f + n * 0 ≡ f = omega (arith, z) in
    let wide : w ≤ w * (f + n * 0) = le-mul_of_pos_right w some in
    let le : n ≤ w = few refl in
    omega (arith, wide, le, total)
copies-fit w n (suc o) f few some =
    let wide : n ≤ n * suc o = le-mul_of_pos_right n (omega arith) in
    omega (arith, wide)

repeat-fits : (w d n o f j inner : ℕ) → inner ≤ 1 + room w d o → (o ≡ 0 → n ≤ w) → 0 < f + n * o + j → suc (f + n * inner + j) ≤ suc (room w (suc d) (f + n * o + j))
repeat-fits w d n o f j inner h few some =
    let same : f + n * o + j ≡ (f + j) + n * o = omega arith in
    let level = room-level w d ((f + j) + n * o) in
    let each : n * inner ≤ n * (1 + room w d o) = mul-le-mul_left n h in
    let spread : n * (1 + room w d o) ≡ n * 1 + n * room w d o = mul-add n 1 (room w d o) in
    let one : n * 1 ≡ n = mul-one n in
    let times : n * room w d o ≡ room w d (n * o) = room-times w d n o in
    let grown : room w d (n * o) ≤ room w d ((f + j) + n * o) = room-more w d (n * o) ((f + j) + n * o) (omega arith) in
    let lines = copies-fit w n o (f + j) few (omega (arith, some)) in
    subst (λ m. suc (f + n * inner + j) ≤ suc (room w (suc d) m)) (sym same) (omega (arith, level, each, spread, one, times, grown, lines))

none-inside : (us : Vertices) → IsEmpty us → vertices_made_in (prune_all us) ≡ 0
none-inside no_vertices h = refl
none-inside (and_vertex u us) h = absurd h

leaf-fits : (w d o : ℕ) (us : Vertices) → IsEmpty us → suc (vertices_made_in (prune_all us)) ≤ suc (room w d o)
leaf-fits w d o us h = let none = none-inside us h in omega (arith, none)

live-fits : (w : ℕ) (us : Vertices) (k : Kind) → count_of us ≤ w → IsKindNarrow w k us → vertices_made_in (prune_all us)
    ≤ count_of us + room w (depth_in us) (operations_in us) → 0 < operations_by k (operations_in us)
    → made_by k (vertices_made_in (prune_all us)) ≤ suc (room w (suc (depth_in us)) (operations_by k (operations_in us)))
live-fits w us (graph outs) narrow h inner some = flat-fits w (depth_in us) (operations_in us) (vertices_made_in (prune_all us)) (count_of us) inner narrow some
live-fits w us (switch values names) narrow h inner some = more-fits w (depth_in us) (operations_in us) (length names) (vertices_made_in (prune_all us)) (count_of us) inner narrow some
live-fits w us (repeat n feeds gives) narrow h inner some =
    repeat-fits w (depth_in us) n (operations_in us) (length (fork_names feeds)) (length (join_names gives)) (vertices_made_in (prune_all us)) (let one = h.0 in omega (arith, inner, one)) h.1 some
live-fits w us (sensor m) narrow h inner some = leaf-fits w (suc (depth_in us)) 1 us h
live-fits w us (actuator m) narrow h inner some = leaf-fits w (suc (depth_in us)) 1 us h
live-fits w us (constant v) narrow h inner some = leaf-fits w (suc (depth_in us)) 1 us h
live-fits w us (delay vs) narrow h inner some = leaf-fits w (suc (depth_in us)) (2 * length vs) us h
live-fits w us (function es) narrow h inner some = leaf-fits w (suc (depth_in us)) 1 us h
live-fits w us explode narrow h inner some = leaf-fits w (suc (depth_in us)) 1 us h
live-fits w us implode narrow h inner some = leaf-fits w (suc (depth_in us)) 1 us h
live-fits w us (merge values) narrow h inner some = leaf-fits w (suc (depth_in us)) 1 us h

some-of : (n : ℕ) → (n == 0) ≡ false → 0 < n
some-of zero e = absurd (false≢true (sym e))
some-of (suc n) e = omega arith

made-either : (w : ℕ) (l : Label) (us : Vertices) → IsNarrow w (vertex l us) → vertices_made_in (prune_all us)
    ≤ count_of us + room w (depth_in us) (operations_in us) → (b : Bool) → (operations (vertex l us) == 0) ≡ b
    → vertices_made (cond b (passing l (wiring (vertex l us))) (vertex l (prune_all us))) ≤ suc (room w (depth (vertex l us)) (operations (vertex l us)))
made-either w l us h inner true e = omega arith
made-either w l us h inner false e = live-fits w us l.kind h.0.0 h.0.1 inner (some-of (operations (vertex l us)) e)

mutual
  pub made-prune : (w : ℕ) (u : Vertex) → IsNarrow w u → vertices_made (prune u) ≤ suc (room w (depth u) (operations u))
  made-prune w (vertex l us) h = made-either w l us h (made-prune_all w us h.1) (operations (vertex l us) == 0) refl

  made-prune_all : (w : ℕ) (us : Vertices) → AllNarrow w us → vertices_made_in (prune_all us) ≤ count_of us + room w (depth_in us) (operations_in us)
  made-prune_all w no_vertices h = omega arith
  made-prune_all w (and_vertex u us) h =
      let first = made-prune w u h.0 in
      let rest = made-prune_all w us h.1 in
      let D = max (depth u) (depth_in us) in
      let one : room w (depth u) (operations u) ≤ room w D (operations u) = room-deeper w (depth u) D (operations u) (omega arith) in
      let others : room w (depth_in us) (operations_in us) ≤ room w D (operations_in us) = room-deeper w (depth_in us) D (operations_in us) (omega arith) in
      let total = room-add w D (operations u) (operations_in us) in
      omega (arith, first, rest, one, others, total)
