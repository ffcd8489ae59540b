-- A tree without repetitions and without cases has graphs and operations alone.
use Rattle.algo_tree.specs.Tree.{Kind, sensor, actuator, constant, delay, function, explode, implode, merge, graph, switch, repeat, Vertex, vertex, Vertices, no_vertices, and_vertex}
use Rattle.algo_tree.specs.NoRepeat.{IsNoRepeat, HasNoRepeat, AllNoRepeat}
use Rattle.flat_laws.specs.NoCase.{IsNoCase, HasNoCase, AllNoCase}
use Rattle.flat_laws.specs.Plain.{IsKindPlain, IsPlain, AllPlain}

kind-plain : (k : Kind) → IsNoRepeat k → IsNoCase k → IsKindPlain k
kind-plain (switch values names) r c = c
kind-plain (repeat n feeds gives) r c = r
kind-plain (sensor n) r c = tt
kind-plain (actuator n) r c = tt
kind-plain (constant v) r c = tt
kind-plain (delay vs) r c = tt
kind-plain (function es) r c = tt
kind-plain explode r c = tt
kind-plain implode r c = tt
kind-plain (merge values) r c = tt
kind-plain (graph outs) r c = tt

mutual
  pub plain : (u : Vertex) → HasNoRepeat u → HasNoCase u → IsPlain u
  plain (vertex l us) r c = (kind-plain l.kind r.0 c.0, all-plain us r.1 c.1)

  all-plain : (us : Vertices) → AllNoRepeat us → AllNoCase us → AllPlain us
  all-plain no_vertices r c = tt
  all-plain (and_vertex u us) r c = (plain u r.0 c.0, all-plain us r.1 c.1)
