-- Which sequence calls each operation and each delay.
use Rattle.std.proofs.Common.{◌≡◌, ℕ, zero, suc, ◌+◌, ◌<◌, Bool, true, false, cond, List, [], ◌∷◌, drop, length, get_or, Some, refl, sym, ap, arith, ◌∙◌, ℤ}
use Rattle.std.specs.Prelude.{slice_get, if◌then◌else◌}
use Rattle.std.proofs.lemmas.List.{drop_more}
use Rattle.std.proofs.lemmas.Option.{slice_get_within}
use Rattle.executive_program.specs.declared.Kind.{Kind}
use Rattle.executive_program.specs.declared.Kind.TheVariants.{Sensor, Actuator, Function, Constant, Get, Set, Explode, Implode, Merge}
use Rattle.executive_program.specs.declared.Vertex.{Vertex}
use Rattle.executive_program.specs.Meaning.{is_get, delay_number}
use Rattle.word_rule.specs.Job.{JobData}
use Rattle.word_rule.specs.Operation.{delay_of}
use Rattle.word_rule.specs.Agrees.{IsFormed, caller}
use Rattle.word_rule.proofs.AgreeDelays.{GetHalf, get_half}
use Rattle.word_table.specs.Owners.{owners}

-- the caller of a get half stands at the number of its delay
pub get_owner : (cs : List ℕ) (xs : List Vertex) (v : ℕ) (x : Vertex) → length cs ≡ length xs → slice_get xs v ≡ Some x → is_get x.kind
    ≡ true → slice_get (owners cs xs) (delay_number xs v) ≡ Some (get_or cs v 0)
get_owner cs [] v x l e k = absurd (cc)
get_owner [] (y ∷ ys) v x l e k = absurd (omega arith)
get_owner (c ∷ cs) (y ∷ ys) zero x l e k = let same : y ≡ x = cc in ap (λ (b : Bool). slice_get (cond b (c ∷ owners cs ys) (owners cs ys)) 0) (ap (λ (z : Vertex). is_get z.kind) same ∙ k)
get_owner (c ∷ cs) (y ∷ ys) (suc v) x l e k = by (is_get y.kind) (get_owner cs ys v x (omega arith) e k)
  where
    by : (b : Bool) → slice_get (owners cs ys) (delay_number ys v) ≡ Some (get_or cs v 0)
        → slice_get (cond b (c ∷ owners cs ys) (owners cs ys)) (if b then delay_number ys v + 1 else delay_number ys v) ≡ Some (get_or cs v 0)
    by true r = let q : delay_number ys v + 1 ≡ suc (delay_number ys v) = omega arith in ap (λ (n : ℕ). slice_get (c ∷ owners cs ys) n) q ∙ r
    by false r = r

-- so that of an operation that is a half of a delay stands there
pub cell_owner : (j : JobData) (f : IsFormed j) (callers : List ℕ) → length callers ≡ length j.graph.vertices → ((v : ℕ) → v < length j.graph.vertices → get_or callers v 0 ≡ caller j v)
    → (v d : ℕ) (x : Vertex) → slice_get j.graph.vertices v ≡ Some x → delay_of j.graph v x ≡ Some d → slice_get (owners callers j.graph.vertices) d ≡ Some (caller j v)
cell_owner j f callers many each v d x is e = ap (slice_get (owners callers j.graph.vertices)) (sym h.number) ∙ get_owner callers j.graph.vertices h.at h.half many h.stands (ap is_get h.kind)
    ∙ ap (λ (n : ℕ). Some n) (each h.at (slice_get_within j.graph.vertices h.at h.half h.stands) ∙ h.together)
  where
    h : GetHalf j.program j.graph v d
    h = get_half j.program j.graph f.seqs j.media f.formed.0 f.formed.1 f.valid v d x is e

-- what is no get half
not_get : (k : Kind) → ((z : List ℤ) → k ≡ Get z → ⊥) → is_get k ≡ false
not_get (Get z) n = absurd (n z refl)
not_get (Sensor i) n = refl
not_get (Actuator a) n = refl
not_get (Function f) n = refl
not_get (Constant z) n = refl
not_get Set n = refl
not_get Explode n = refl
not_get Implode n = refl
not_get (Merge z) n = refl

-- the callers of the delays from operation v on, one operation further
module _ (cs : List ℕ) (xs : List Vertex) (v : ℕ) (there : v < length xs) (many : length cs ≡ length xs) (x : Vertex) (read : x ≡ get_or xs v x) where
  abbrev rest : Bool → List ℕ
  rest b = cond b (get_or cs v 0 ∷ owners (drop (v + 1) cs) (drop (v + 1) xs)) (owners (drop (v + 1) cs) (drop (v + 1) xs))

  further : owners (drop v cs) (drop v xs) ≡ rest (is_get (get_or xs v x).kind)
  further = λ i. owners (drop_more cs v 0 (omega (arith, there, many)) i) (drop_more xs v x there i)

  pub one_owner : (z : List ℤ) → x.kind ≡ Get z → owners (drop v cs) (drop v xs) ≡ get_or cs v 0 ∷ owners (drop (v + 1) cs) (drop (v + 1) xs)
  one_owner z e = further ∙ ap rest (ap (λ (y : Vertex). is_get y.kind) (sym read) ∙ ap is_get e)

  pub no_owner : ((z : List ℤ) → x.kind ≡ Get z → ⊥) → owners (drop v cs) (drop v xs) ≡ owners (drop (v + 1) cs) (drop (v + 1) xs)
  no_owner n = further ∙ ap rest (ap (λ (y : Vertex). is_get y.kind) (sym read) ∙ not_get x.kind n)
