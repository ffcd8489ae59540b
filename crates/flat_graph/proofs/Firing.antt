-- What the fit of an operation says of the vectors that it reads, of which the first are its inputs.
use Rattle.std.proofs.Common.{◌≡◌, ℕ, zero, suc, ◌+◌, ◌<◌, ◌≤◌, Bool, true, ◌&&◌, ◌==◌, List, [], ◌∷◌, map, length, take, refl, sym, ap, subst, arith, ◌∙◌}
use Rattle.std.specs.Prelude.{nat_le, slice_get, slice_index_or, Option, Some, ℤ, pos, All, nat_lt, if◌then◌else◌}
use Rattle.std.specs.List.{list_all}
use Rattle.std.specs.Ordering.{int_eq}
use Rattle.std.proofs.lemmas.Bool.{and_parts, false≢true, ltb-true, eqb-true}
use Rattle.std.proofs.lemmas.List.{length-map, get_or-map}
use Rattle.std.proofs.lemmas.List.Sums.{AllPass-from_list_all}
use Rattle.syn_base.specs.declared.arithmetic.Op.TheVariants.{Neg}
use Rattle.syn_base.specs.Arithmetic.{applied, wrapped}
use Rattle.body_lang.specs.declared.expression.Expr as declared
use Rattle.body_lang.specs.Expr.{Expr, view, literal, index, element, sum_over, negation, apply, select, PortsBelow, value_of, vector_of, function_outputs, total, element_at}
use Rattle.level_meaning.specs.Level.{selected, merged}
use Rattle.flat_graph.specs.Valid.{ports_below, is_body, is_only, is_merge}
use Rattle.flat_graph.proofs.Bodies.{ports_are_below}
use Rattle.flat_graph.proofs.KindLens.{length-vector_at, only_is, selected_le, merge_lens}
use Rattle.flat_graph.proofs.Fill.{map-take}
use Rattle.syn_base.specs.Vectors.{Vector, Values, vector_at}

pub vector_at_take : (vs : Values) (n k : ℕ) → k < n → vector_at (take n vs) k ≡ vector_at vs k
vector_at_take vs zero k l = absurd (omega arith)
vector_at_take [] (suc n) k l = refl
vector_at_take (v ∷ vs) (suc n) zero l = refl
vector_at_take (v ∷ vs) (suc n) (suc k) l = vector_at_take vs n k (omega arith)

value_same : (vs : Values) (n : ℕ) (e : Expr) (j : ℕ) → ports_below n e ≡ true → value_of e vs j ≡ value_of e (take n vs) j
value_same vs n (literal v) j h = refl
value_same vs n index j h = refl
value_same vs n (element k e) j h = let a = and_parts (nat_lt k n) (ports_below n e) h in
    λ i. element_at (sym (vector_at_take vs n k (ltb-true k n a.0)) i) (value_same vs n e j a.1 i)
value_same vs n (sum_over k) j h = ap (λ v. wrapped (total v)) (sym (vector_at_take vs n k (ltb-true k n h)))
value_same vs n (negation e) j h = ap (λ x. applied Neg x (pos 0)) (value_same vs n e j h)
value_same vs n (apply op a b) j h = let p = and_parts (ports_below n a) (ports_below n b) h in λ i. applied op (value_same vs n a j p.0 i) (value_same vs n b j p.1 i)
value_same vs n (select c a b) j h =
    let p = and_parts (ports_below n c) (ports_below n a && ports_below n b) h in
    let q = and_parts (ports_below n a) (ports_below n b) p.1 in
    λ i. if int_eq (value_same vs n c j p.0 i) (pos 0) then value_same vs n b j q.1 i else value_same vs n a j q.0 i

pub function_same : (lens : List ℕ) (es : List Expr) (vs : Values) (n : ℕ) → list_all (ports_below n) es ≡ true → function_outputs lens es vs ≡ function_outputs lens es (take n vs)
function_same [] es vs n h = refl
function_same (m ∷ lens) [] vs n h = ap (λ ws. Rattle.syn_base.specs.Vectors.zeros m ∷ ws) (function_same lens [] vs n h)
function_same (m ∷ lens) (e ∷ es) vs n h = let a = and_parts (ports_below n e) (list_all (ports_below n) es) h in
    λ i. vector_of m (λ j. value_same vs n e j a.0 i) ∷ function_same lens es vs n a.1 i

more_ports : (n m : ℕ) → n ≤ m → (e : Expr) → PortsBelow n e → PortsBelow m e
more_ports n m l (literal v) h = tt
more_ports n m l index h = tt
more_ports n m l (element k e) h = (omega (arith, h.0), more_ports n m l e h.1)
more_ports n m l (sum_over k) h = omega (arith, h)
more_ports n m l (negation e) h = more_ports n m l e h
more_ports n m l (apply op a b) h = (more_ports n m l a h.0, more_ports n m l b h.1)
more_ports n m l (select c a b) h = (more_ports n m l c h.0, (more_ports n m l a h.1.0, more_ports n m l b h.1.1))

-- the body of a number
pub body_at : (bodies : List (List Expr)) (b : ℕ) (body : List Expr) → b < length bodies → body ≡ slice_index_or bodies b body → slice_get bodies b ≡ Some body
body_at [] b body l e = absurd (omega arith)
body_at (x ∷ bodies) zero body l e = ap Some (sym e)
body_at (x ∷ bodies) (suc b) body l e = body_at bodies b body (omega arith) e

body_of : (bodies : List (List Expr)) (b : ℕ) (body : List Expr) → slice_get bodies b ≡ Some body → slice_index_or bodies b [] ≡ body
body_of [] b body e = absurd (cc)
body_of (x ∷ bodies) zero body e = cc
body_of (x ∷ bodies) (suc b) body e = body_of bodies b body e

pub body_there : (bodies : List (List Expr)) (b ins outs : ℕ) → is_body ins outs (slice_get bodies b) ≡ true → b < length bodies
body_there [] b ins outs h = absurd (false≢true h)
body_there (x ∷ bodies) zero ins outs h = omega arith
body_there (x ∷ bodies) (suc b) ins outs h = omega (arith, body_there bodies b ins outs h)

length-first : (n : ℕ) (vs : Values) → n ≤ length vs → length (take n (map length vs)) ≡ n
length-first zero vs l = refl
length-first (suc n) [] l = absurd (omega arith)
length-first (suc n) (v ∷ vs) l = ap suc (length-first n vs (omega arith))

-- A function, whose body is this one, with these expressions.
module _ (bodies : List (List Expr)) (b : ℕ) (body : List Expr) (vs : Values) (n outs : ℕ) (few : n ≤ length vs)
    (is : body ≡ slice_index_or bodies b body) (h : is_body (length (take n (map length vs))) outs (slice_get bodies b) ≡ true) where
  fits_body : is_body n outs (Some body) ≡ true
  fits_body =
      subst (λ (m : ℕ). is_body m outs (Some body) ≡ true) (length-first n vs few)
      (subst (λ (o : Option (List Expr)). is_body (length (take n (map length vs))) outs o ≡ true) (body_at bodies b body (body_there bodies b (length (take n (map length vs))) outs h) is) h)

  ports_fit : list_all (ports_below n) body ≡ true
  ports_fit =
      let each = (and_parts (nat_le 1 outs) ((length body == outs) && list_all (ports_below n) body) fits_body).1 in
      (and_parts (length body == outs) (list_all (ports_below n) body) each).1

  pub ports_all : (es : List declared.Expr) → map view es ≡ body → All (λ e. PortsBelow (length vs) (view e)) es
  ports_all es are k d l =
      let fit : list_all (ports_below n) (map view es) ≡ true = subst (λ xs. list_all (ports_below n) xs ≡ true) (sym are) ports_fit in
      let there : k < length (map view es) = omega (arith, length-map es view) in
      let here : ports_below n (slice_index_or (map view es) k (view d)) ≡ true = AllPass-from_list_all (ports_below n) (map view es) fit k (view d) there in
      more_ports n (length vs) few (view (slice_index_or es k d)) (ports_are_below n (view (slice_index_or es k d)) (subst (λ e. ports_below n e ≡ true) (get_or-map view es k d (view d) l) here))

  pub function_is : (lens : List ℕ) → function_outputs lens body vs ≡ function_outputs lens (slice_index_or bodies b []) (take n vs)
  function_is lens =
      function_same lens body vs n ports_fit
      ∙ ap (λ es. function_outputs lens es (take n vs)) (sym (body_of bodies b body (body_at bodies b body (body_there bodies b (length (take n (map length vs))) outs h) is)))

-- the first of the inputs
first_of : (n m : ℕ) (ns : List ℕ) → take n ns ≡ m ∷ [] → slice_index_or ns 0 0 ≡ m
first_of zero m ns e = absurd (cc)
first_of (suc n) m [] e = absurd (cc)
first_of (suc n) m (x ∷ ns) e = cc

pub explode_len : (vs : Values) (n m : ℕ) (equal : Bool) → (is_only m (take n (map length vs)) && equal) ≡ true → length (vector_at vs 0) ≡ m
explode_len vs n m equal h = length-vector_at vs 0 ∙ first_of n m (map length vs) (only_is m (take n (map length vs)) (and_parts (is_only m (take n (map length vs))) equal h).0)

merge_count : (k : ℕ) (lens outs : List ℕ) → is_merge k lens outs ≡ true → length lens ≡ k + 2
merge_count k [] outs h = absurd (false≢true h)
merge_count k (c ∷ lens) outs h =
    let both = and_parts ((c == 1) && (length lens == k + 1)) (list_all (λ n. is_only n outs) lens) h in
    let many = eqb-true (length lens) (k + 1) (and_parts (c == 1) (length lens == k + 1) both.0).1 in
    omega (arith, many)

-- A merge, which selects this case.
module _ (values : List ℤ) (vs : Values) (n : ℕ) (outs : List ℕ) (few : n ≤ length vs) (h : is_merge (length values) (take n (map length vs)) outs ≡ true) where
  pub case_there : (v : Vector) → 1 + selected values v < n
  case_there v = omega (arith, merge_count (length values) (take n (map length vs)) outs h, length-first n vs few, selected_le values v)

  pub merged_is : vector_at vs (1 + selected values (vector_at vs 0)) ≡ merged values (take n vs)
  merged_is =
      let some : 0 < n = omega (arith, case_there []) in
      let first = vector_at_take vs n 0 some in
      sym (vector_at_take vs n (1 + selected values (vector_at vs 0)) (case_there (vector_at vs 0)))
      ∙ ap (vector_at (take n vs)) (let e : 1 + selected values (vector_at vs 0) ≡ suc (selected values (vector_at vs 0)) = omega arith in e)
      ∙ ap (λ v. vector_at (take n vs) (suc (selected values v))) (sym first)

  pub merged_fits : outs ≡ length (vector_at vs (1 + selected values (vector_at vs 0))) ∷ []
  merged_fits =
      sym (merge_lens values (take n vs) outs (subst (λ (ns : List ℕ). is_merge (length values) ns outs ≡ true) (sym (map-take n vs)) h))
      ∙ ap (λ v. length v ∷ []) (sym merged_is)
