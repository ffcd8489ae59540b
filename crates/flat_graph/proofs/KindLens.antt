-- An operation whose inputs have the lengths that fit its kind gives outputs of their lengths.
use Rattle.std.proofs.Common.{
  ◌≡◌,
  ℕ,
  zero,
  suc,
  ◌+◌,
  ◌<◌,
  ◌≤◌,
  Bool,
  true,
  false,
  ◌&&◌,
  ◌==◌,
  List,
  [],
  ◌∷◌,
  cond,
  map,
  length,
  take,
  drop,
  refl,
  sym,
  ap,
  arith,
  ◌∙◌,
  length-append,
  length-take,
  length-drop,
}
use Rattle.std.specs.Prelude.{slice_index_or, sum, pos, ℤ}
use Rattle.std.specs.List.{list_all}
use Rattle.std.specs.Ordering.{int_eq}
use Rattle.std.proofs.lemmas.Bool.{and_parts, eqb-true, false≢true}
use Rattle.std.proofs.lemmas.List.{length-map, length-replicate}
use Rattle.std.proofs.lemmas.List.Sums.{sum_by-cons}
use Rattle.body_lang.specs.Expr.{Expr, function_outputs, value_of}
use Rattle.level_meaning.specs.Level.{selected, element_at, all_joined, merged}
use Rattle.flat_graph.specs.declared.vertex.Kind.{Kind}
use Rattle.flat_graph.specs.declared.vertex.Kind.TheVariants.{Sensor, Actuator, Function, Constant, Get, Set, Explode, Implode, Merge}
use Rattle.flat_graph.specs.Valid.{is_only, are_equal, is_merge, fits}
use Rattle.flat_graph.specs.Fire.{kind_outputs}
use Rattle.syn_base.specs.Vectors.{Vector, Values, vector_at, zeros}
use Rattle.syn_base.specs.Numbers.{numbers_below}
use Rattle.syn_base.specs.Rows.{cut}

pub length-vector_at : (vs : Values) (k : ℕ) → length (vector_at vs k) ≡ slice_index_or (map length vs) k 0
length-vector_at [] k = refl
length-vector_at (v ∷ vs) zero = refl
length-vector_at (v ∷ vs) (suc k) = length-vector_at vs k

pub length-zeros : (outs : List ℕ) → map length (map zeros outs) ≡ outs
length-zeros [] = refl
length-zeros (n ∷ outs) = λ i. length-replicate n (pos 0) i ∷ length-zeros outs i

pub sum-cons : (n : ℕ) (ns : List ℕ) → sum (n ∷ ns) ≡ n + sum ns
sum-cons n ns = sum_by-cons (λ x. x) n ns

pub only_is : (n : ℕ) (lens : List ℕ) → is_only n lens ≡ true → lens ≡ n ∷ []
only_is n [] h = absurd (false≢true h)
only_is n (x ∷ []) h = ap (λ m. m ∷ []) (eqb-true x n h)
only_is n (x ∷ y ∷ lens) h = absurd (false≢true h)

pub none_is : {A : Type 0} (xs : List A) → (length xs == 0) ≡ true → xs ≡ []
none_is [] h = refl
none_is (x ∷ xs) h = absurd (let e = eqb-true (length (x ∷ xs)) 0 h in omega arith)

pub one_is : (xs : List ℕ) → (length xs == 1) ≡ true → xs ≡ slice_index_or xs 0 0 ∷ []
one_is [] h = absurd (let e : 0 ≡ 1 = eqb-true 0 1 h in omega arith)
one_is (x ∷ []) h = refl
one_is (x ∷ y ∷ xs) h = absurd (let e = eqb-true (length (x ∷ y ∷ xs)) 1 h in omega arith)

numbers_long : (n : ℕ) → length (numbers_below n) ≡ n
numbers_long zero = refl
numbers_long (suc n) = length-append (numbers_below n) (n ∷ []) ∙ (let e = numbers_long n in omega arith)

pub function_lens : (outs : List ℕ) (es : List Expr) (ins : Values) → map length (function_outputs outs es ins) ≡ outs
function_lens [] es ins = refl
function_lens (n ∷ outs) [] ins = λ i. length-replicate n (pos 0) i ∷ function_lens outs [] ins i
function_lens (n ∷ outs) (e ∷ es) ins = λ i. (length-map (numbers_below n) (value_of e ins) ∙ numbers_long n) i ∷ function_lens outs es ins i

parts_lens : (outs : List ℕ) (v : Vector) → length v ≡ sum outs → map length (cut outs v) ≡ outs
parts_lens [] v h = refl
parts_lens (n ∷ outs) v h =
    let all : length v ≡ n + sum outs = h ∙ sum-cons n outs in
    let first : length (take n v) ≡ n = omega (arith, length-take n v) in
    let rest = parts_lens outs (drop n v) (let e : length (drop n v) ≡ sum outs = omega (arith, length-drop n v) in e) in
    λ i. first i ∷ rest i

pub joined_len : (vs : Values) → length (all_joined vs) ≡ sum (map length vs)
joined_len [] = refl
joined_len (v ∷ vs) = length-append v (all_joined vs) ∙ ap (λ n. length v + n) (joined_len vs) ∙ sym (sum-cons (length v) (map length vs))

pub selected_le : (values : List ℤ) (v : Vector) → selected values v ≤ length values
selected_le [] v = omega arith
selected_le (x ∷ values) v = by (int_eq x (element_at v 0)) (selected_le values v)
  where
    by : (b : Bool) → selected values v ≤ length values → (cond b 0 (suc (selected values v))) ≤ suc (length values)
    by true h = omega arith
    by false h = omega arith

each_only : (outs : List ℕ) (vs : Values) (k : ℕ) → k < length vs → list_all (λ n. is_only n outs) (map length vs) ≡ true → is_only (length (vector_at vs k)) outs ≡ true
each_only outs [] k l h = absurd (omega arith)
each_only outs (v ∷ vs) zero l h = (and_parts (is_only (length v) outs) (list_all (λ n. is_only n outs) (map length vs)) h).0
each_only outs (v ∷ vs) (suc k) l h = each_only outs vs k (omega arith) (and_parts (is_only (length v) outs) (list_all (λ n. is_only n outs) (map length vs)) h).1

pub merge_lens : (values : List ℤ) (ins : Values) (outs : List ℕ) → is_merge (length values) (map length ins) outs ≡ true → length (merged values ins) ∷ [] ≡ outs
merge_lens values [] outs h = absurd (false≢true h)
merge_lens values (c ∷ vs) outs h =
    let each = and_parts ((length c == 1) && (length (map length vs) == length values + 1)) (list_all (λ n. is_only n outs) (map length vs)) h in
    let many = eqb-true (length (map length vs)) (length values + 1) (and_parts (length c == 1) (length (map length vs) == length values + 1) each.0).1 in
    let few = selected_le values c in
    let there : selected values c < length vs = omega (arith, length-map vs length) in
    sym (only_is (length (vector_at vs (selected values c))) outs (each_only outs vs (selected values c) there each.1))

-- what a sensor senses, and what a get half has, are of their lengths
abbrev pub HasSeen : Kind → List ℕ → Vector → Type 0
HasSeen (Sensor i) outs seen = length seen ≡ slice_index_or outs 0 0
HasSeen _ outs seen = Unit {0}

abbrev pub HasCell : Kind → Vector → Type 0
HasCell (Get z) cell = length cell ≡ length z
HasCell _ cell = Unit {0}

pub kind_lens : (bodies : List (List Expr)) (kind : Kind) (outs : List ℕ) (cell seen : Vector) (ins : Values)
    → fits bodies kind (map length ins) outs ≡ true → HasSeen kind outs seen → HasCell kind cell
    → map length (kind_outputs bodies kind outs cell seen ins) ≡ outs
kind_lens bodies (Sensor i) outs cell seen ins h s c =
    let one = one_is outs (and_parts (length (map length ins) == 0) (length outs == 1) h).1 in
    ap (λ n. n ∷ []) s ∙ sym one
kind_lens bodies (Actuator i) outs cell seen ins h s c = sym (none_is outs (and_parts (length (map length ins) == 1) (length outs == 0) h).1)
kind_lens bodies (Function b) outs cell seen ins h s c = function_lens outs (slice_index_or bodies b []) ins
kind_lens bodies (Constant z) outs cell seen ins h s c = sym (only_is (length z) outs (and_parts (length (map length ins) == 0) (is_only (length z) outs) h).1)
kind_lens bodies (Get z) outs cell seen ins h s c = ap (λ n. n ∷ []) c ∙ sym (only_is (length z) outs (and_parts (length (map length ins) == 0) (is_only (length z) outs) h).1)
kind_lens bodies Set outs cell seen ins h s c = sym (none_is outs (and_parts (length (map length ins) == 1) (length outs == 0) h).1)
kind_lens bodies Explode outs cell seen ins h s c =
    parts_lens outs (vector_at ins 0)
    (length-vector_at ins 0 ∙ ap (λ (ns : List ℕ). slice_index_or ns 0 0)
    (only_is (sum outs) (map length ins) (and_parts (is_only (sum outs) (map length ins)) (are_equal outs) h).0))
kind_lens bodies Implode outs cell seen ins h s c =
    ap (λ n. n ∷ []) (joined_len ins) ∙ sym (only_is (sum (map length ins)) outs (and_parts (is_only (sum (map length ins)) outs) (are_equal (map length ins)) h).0)
kind_lens bodies (Merge values) outs cell seen ins h s c = merge_lens values ins outs h
