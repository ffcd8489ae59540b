-- Before the first decision the tables tell that nothing is done.
use Rattle.std.proofs.Common.{◌≡◌, ℕ, zero, suc, ◌+◌, ◌-◌, ◌*◌, ◌<◌, ◌≤◌, List, [], ◌∷◌, ◌++◌, length, replicate, refl, sym, ap, arith, ◌∙◌, length-append, mul-le-mul_right, inl, inr}
use Rattle.std.specs.Prelude.{All, slice_get, slice_index_or}
use Rattle.std.proofs.lemmas.Bool.{cases_order}
use Rattle.schedule.specs.declared.Source.{Source}
use Rattle.schedule.specs.declared.Vertex.{Vertex}
use Rattle.schedule.specs.Graph.{with_vertex, len_of}
use Rattle.schedule.specs.FlatValid.{HasFewOutputs}
use Rattle.comm_routing.specs.Task.{Task}
use Rattle.comm_routing.specs.Board.{Board, output_in}
use Rattle.comm_routing.specs.Start.{firsts_from, all_lens, IsStart}
use Rattle.comm_routing.specs.Tables.{Tells, TellsOf}

pub same_entries : {A : Type 0} (a : A) (n i : ℕ) → slice_index_or (replicate n a) i a ≡ a
same_entries a zero i = refl
same_entries a (suc n) zero = refl
same_entries a (suc n) (suc i) = same_entries a n i

pub few_lens : (xs : List Vertex) → All HasFewOutputs xs → length (all_lens xs) ≤ 64 * length xs
few_lens [] h = omega arith
few_lens (x ∷ xs) h =
    let r = few_lens xs (λ i d l. h (suc i) d (omega arith)) in
    let first = h 0 x (omega arith) in
    let e = length-append x.outs (all_lens xs) in
    omega arith

-- the first output of operation v
pub start_of : List Vertex → ℕ → ℕ
start_of xs v = slice_index_or (firsts_from 0 xs) v 0

pub record At (xs : List Vertex) (a v port : ℕ) : Type 0 where
  pub there : v < length (firsts_from a xs)
  pub from : a ≤ slice_index_or (firsts_from a xs) v 0
  pub within : slice_index_or (firsts_from a xs) v 0 + port < a + length (all_lens xs)
  pub len : slice_index_or (all_lens xs) (slice_index_or (firsts_from a xs) v 0 + port - a) 0 ≡ with_vertex (slice_get xs v) 0 (λ y. slice_index_or y.outs port 0)

port_below : (ns : List ℕ) (k : ℕ) → 1 ≤ slice_index_or ns k 0 → k < length ns
port_below [] k l = absurd (omega arith)
port_below (n ∷ ns) zero l = omega arith
port_below (n ∷ ns) (suc k) l = let z = port_below ns k l in omega arith

index_left : (xs ys : List ℕ) (i : ℕ) → i < length xs → slice_index_or (xs ++ ys) i 0 ≡ slice_index_or xs i 0
index_left [] ys i l = absurd (omega arith)
index_left (x ∷ xs) ys zero l = refl
index_left (x ∷ xs) ys (suc i) l = index_left xs ys i (omega arith)

index_right : (xs ys : List ℕ) (i j : ℕ) → i ≡ length xs + j → slice_index_or (xs ++ ys) i 0 ≡ slice_index_or ys j 0
index_right [] ys i j e = ap (λ (k : ℕ). slice_index_or ys k 0) (let z : i ≡ j = omega arith in z)
index_right (x ∷ xs) ys zero j e = absurd (omega arith)
index_right (x ∷ xs) ys (suc i) j e = index_right xs ys i j (omega arith)

from_there : (xs : List Vertex) (a v : ℕ) → v < length (firsts_from a xs) → a ≤ slice_index_or (firsts_from a xs) v 0
from_there [] a v l = absurd (omega arith)
from_there (x ∷ xs) a zero l = omega arith
from_there (x ∷ xs) a (suc v) l = let r = from_there xs (a + length x.outs) v (omega arith) in omega arith

-- where the output stands
pub at : (xs : List Vertex) (a v port : ℕ) → 1 ≤ with_vertex (slice_get xs v) 0 (λ y. slice_index_or y.outs port 0) → At xs a v port
at [] a v port l = absurd (omega arith)
at (x ∷ xs) a zero port l =
    let p = port_below x.outs port l in
    let e = length-append x.outs (all_lens xs) in
    let z : a + port - a ≡ port = omega arith in
    record {
      there = omega arith;
      from = omega arith;
      within = omega arith;
      len = ap (λ (i : ℕ). slice_index_or (x.outs ++ all_lens xs) i 0) z ∙ index_left x.outs (all_lens xs) port p;
    }
at (x ∷ xs) a (suc v) port l =
    let r = at xs (a + length x.outs) v port l in
    let e = length-append x.outs (all_lens xs) in
    let there = r.there in
    let from = r.from in
    let within = r.within in
    let f = slice_index_or (firsts_from (a + length x.outs) xs) v 0 in
    record {
      there = omega arith;
      from = omega arith;
      within = omega arith;
      len = index_right x.outs (all_lens xs) (f + port - a) (f + port - (a + length x.outs)) (omega arith) ∙ r.len;
    }

-- outputs of a later operation have greater numbers
rises : (xs : List Vertex) (a v w port : ℕ) → v < w → w < length (firsts_from a xs) → 1 ≤ with_vertex (slice_get xs v) 0 (λ y. slice_index_or y.outs port 0)
    → slice_index_or (firsts_from a xs) v 0 + port < slice_index_or (firsts_from a xs) w 0
rises [] a v w port less l h = absurd (omega arith)
rises (x ∷ xs) a v zero port less l h = absurd (omega arith)
rises (x ∷ xs) a zero (suc w) port less l h = let f = from_there xs (a + length x.outs) w (omega arith) in let p = port_below x.outs port h in omega arith
rises (x ∷ xs) a (suc v) (suc w) port less l h = rises xs (a + length x.outs) v w port (omega arith) (omega arith) h

one_row : (a n : ℕ) → (a + 1) * n ≡ a * n + n
one_row a n = grind arith

module _ (t : Task) (b : Board) (ops : ℕ) (start : IsStart t.graph.vertices ops b) (same : ops ≡ length t.archi.operators)
    (few : length t.archi.operators ≤ 16) (few_media : length t.archi.media ≤ 16) where
  here : (x : Source) → 1 ≤ len_of t.graph.vertices x → At t.graph.vertices 0 x.vertex x.port
  here x l = at t.graph.vertices 0 x.vertex x.port l

  number : (x : Source) → output_in b x ≡ slice_index_or (firsts_from 0 t.graph.vertices) x.vertex 0 + x.port
  number x = ap (λ (l : List ℕ). slice_index_or l x.vertex 0 + x.port) start.first

  of : (x : Source) → 1 ≤ len_of t.graph.vertices x → TellsOf t [] b x
  of x l =
      let r = here x l in
      let n = number x in
      let within = r.within in
      let sizes = ap length start.lens in
      let first = ap length start.first in
      let there = r.there in
      let f = slice_index_or (firsts_from 0 t.graph.vertices) x.vertex 0 in
      let z : output_in b x ≡ f + x.port - 0 = omega arith in
      record {
        output = record { operation = omega arith; output = omega arith };
        len = (λ i. slice_index_or (start.lens i) (z i) 0) ∙ r.len;
        place = λ o low.
            let h = start.held in
            let ops' = start.operators in
            let u : output_in b x + 1 ≤ length b.lens = omega arith in
            let m : (output_in b x + 1) * b.operators ≤ length b.lens * b.operators = mul-le-mul_right b.operators u in
            let s : (output_in b x + 1) * b.operators ≡ output_in b x * b.operators + b.operators = one_row (output_in b x) b.operators in
            let k : length b.held ≡ length b.lens * b.operators = h ∙ (λ i. length (sym start.lens i) * sym ops' i) in
            omega arith;
        held = λ o low. start.none_held (output_in b x * b.operators + o);
      }

  pub told_at_start : Tells t [] b
  told_at_start = record {
    operators = start.operators ∙ same;
    outputs = of;
    apart = λ x y lx ly e. apart x y lx ly (sym (number x) ∙ e ∙ number y);
    operations = start.places;
    all_ended = start.ended;
    all_busy = (let s = start.busy in omega arith);
    places = λ v l. start.none_placed v;
    ended = λ v l. start.no_ended v;
    media = (let s = start.ends in omega arith);
    ends = λ m l. start.no_ends m;
    busy = λ o l. start.no_busy o;
  }
    where
      apart : (x y : Source) → 1 ≤ len_of t.graph.vertices x → 1 ≤ len_of t.graph.vertices y
          → slice_index_or (firsts_from 0 t.graph.vertices) x.vertex 0 + x.port ≡ slice_index_or (firsts_from 0 t.graph.vertices) y.vertex 0 + y.port → x ≡ y
      apart x y lx ly e = elim (cases_order x.vertex y.vertex) [
        | inl v ↦ (let z = ap (λ (k : ℕ). slice_index_or (firsts_from 0 t.graph.vertices) k 0) v in let p : x.port ≡ y.port = omega arith in λ i. record { vertex = v i; port = p i })
        | inr r ↦ elim r [
          | inl less ↦ absurd (let z = rises t.graph.vertices 0 x.vertex y.vertex x.port less (here y ly).there lx in omega arith)
          | inr more ↦ absurd (let z = rises t.graph.vertices 0 y.vertex x.vertex y.port more (here x lx).there ly in omega arith)
        ]
      ]
