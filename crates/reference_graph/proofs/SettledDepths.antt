-- Depths settled one by one are the depths that are defined.
use Rattle.std.proofs.Common.{
  ◌≡◌,
  ◌≢◌,
  ℕ,
  zero,
  suc,
  ◌+◌,
  ◌<◌,
  ◌≤◌,
  Bool,
  true,
  false,
  List,
  [],
  ◌∷◌,
  length,
  map,
  get_or,
  set,
  arith,
  refl,
  sym,
  ap,
  subst,
  ◌∙◌,
  get_or-set_other,
  get_or-set_same,
  replicate,
  None,
}
use Rattle.std.specs.Prelude.{Contains, slice_index}
use Rattle.std.specs.List.{All}
use Rattle.std.proofs.Math.Dec.{eqb}
use Rattle.std.proofs.lemmas.Bool.{eqb-true, eqb-false}
use Rattle.std.proofs.lemmas.List.Elements.{Contains-get_or, Contains-append_right}
use Rattle.std.proofs.lemmas.List.FromFn.{fill_by_all}
use Rattle.reference_graph.specs.Links.{Links, from, depth_within, depth, depths, reaches_itself, first_recursive}
use Rattle.reference_graph.specs.Answer.{Refers}
use Rattle.reference_graph.specs.Settled.{IsSettled}
use Rattle.reference_graph.proofs.Paths.{no_return, none_is}
use Rattle.syn_base.specs.Numbers.{greatest}

-- ---- the greatest

pub same_greatest : (f h : ℕ → ℕ) (refs : List ℕ) → ((b : ℕ) → Contains refs b → f b ≡ h b) → greatest (map f refs) ≡ greatest (map h refs)
same_greatest f h [] same = refl
same_greatest f h (x ∷ xs) same =
    let here : f x ≡ h x = same x (Contains-get_or (x ∷ xs) 0 0 (omega arith)) in
    let rest = same_greatest f h xs (λ b c. same b (Contains-append_right (x ∷ []) xs b c)) in
    rw (here, rest) refl

at_place : (f : ℕ → ℕ) (refs : List ℕ) (k d : ℕ) → k < length refs → f (get_or refs k d) ≤ greatest (map f refs)
at_place f [] k d h = absurd (omega arith)
at_place f (x ∷ xs) zero d h = omega arith
at_place f (x ∷ xs) (suc k) d h =
    let below : k < length xs = omega arith in
    omega (arith, at_place f xs k d below)

pub at_most : (f : ℕ → ℕ) (refs : List ℕ) (b : ℕ) → Contains refs b → f b ≤ greatest (map f refs)
at_most f refs b h = subst (λ (x : ℕ). f x ≤ greatest (map f refs)) h.2 (at_place f refs h.0 b h.1)

pub greatest_below : (f : ℕ → ℕ) (m : ℕ) (refs : List ℕ) → ((b : ℕ) → f b ≤ m) → greatest (map f refs) ≤ m
greatest_below f m [] all = omega arith
greatest_below f m (x ∷ xs) all = omega (arith, all x, greatest_below f m xs all)

-- ---- one vertex more is settled

-- settling an open vertex changes no depth of settled references
kept : (ds : List ℕ) (a d : ℕ) (refs : List ℕ) → get_or ds a 0 ≡ 0 → ((b : ℕ) → Contains refs b → 0 < get_or ds b 0)
    → greatest (map (slice_index (set ds a d)) refs) ≡ greatest (map (slice_index ds) refs)
kept ds a d refs is_open all = same_greatest (slice_index (set ds a d)) (slice_index ds) refs
    (λ b c.
    let other : b ≢ a = λ e. absurd (omega (arith, all b c, is_open, ap (λ (k : ℕ). get_or ds k 0) e)) in
    get_or-set_other ds a b d 0 other)

record Step (g : Links) (ds : List ℕ) (n a d : ℕ) : Type 0 where
  inside : a < length ds
  open_ : get_or ds a 0 ≡ 0
  before : IsSettled g ds n
  depth : d ≡ greatest (map (slice_index ds) (from g a)) + 1
  all : (b : ℕ) → Refers g a b → 0 < get_or ds b 0

module _ (g : Links) (ds : List ℕ) (n a d : ℕ) (s : Step g ds n a d) where
  at_a : get_or (set ds a d) a 0 ≡ d
  at_a = get_or-set_same ds a d 0 s.inside

  deeper_at : (t : Bool) (x : ℕ) → eqb x a ≡ t → 0 < get_or (set ds a d) x 0
      → get_or (set ds a d) x 0 ≡ greatest (map (slice_index (set ds a d)) (from g x)) + 1
  deeper_at true x e positive =
      let own : get_or (set ds a d) a 0 ≡ greatest (map (slice_index (set ds a d)) (from g a)) + 1 =
      at_a ∙ s.depth ∙ ap (λ (k : ℕ). k + 1) (sym (kept ds a d (from g a) s.open_ s.all)) in
      subst (λ (y : ℕ). get_or (set ds a d) y 0 ≡ greatest (map (slice_index (set ds a d)) (from g y)) + 1) (sym (eqb-true x a e)) own
  deeper_at false x e positive =
      let same : get_or (set ds a d) x 0 ≡ get_or ds x 0 = get_or-set_other ds a x d 0 (eqb-false x a e) in
      let was : 0 < get_or ds x 0 = omega (arith, same, positive) in
      same ∙ s.before.deeper x was ∙ ap (λ (k : ℕ). k + 1) (sym (kept ds a d (from g x) s.open_ (λ b r. s.before.closed x b was r)))

  was_settled : (t : Bool) (x b : ℕ) → eqb x a ≡ t → 0 < get_or (set ds a d) x 0 → Refers g x b → 0 < get_or ds b 0
  was_settled true x b e positive r = s.all b (subst (λ (y : ℕ). Refers g y b) (eqb-true x a e) r)
  was_settled false x b e positive r =
      let same : get_or (set ds a d) x 0 ≡ get_or ds x 0 = get_or-set_other ds a x d 0 (eqb-false x a e) in
      s.before.closed x b (omega (arith, same, positive)) r

  bounded_at : (t : Bool) (x : ℕ) → eqb x a ≡ t → get_or (set ds a d) x 0 ≤ n + 1
  bounded_at true x e =
      let most = greatest_below (slice_index ds) n (from g a) s.before.bounded in
      subst (λ (y : ℕ). get_or (set ds a d) y 0 ≤ n + 1) (sym (eqb-true x a e)) (omega (arith, at_a, s.depth, most))
  bounded_at false x e = omega (arith, get_or-set_other ds a x d 0 (eqb-false x a e), s.before.bounded x)

  more : IsSettled g (set ds a d) (n + 1)
  more = record {
    deeper = λ x positive. deeper_at (eqb x a) x refl positive;
    closed = λ x b positive r.
        let was : 0 < get_or ds b 0 = was_settled (eqb x a) x b refl positive r in
        let other : b ≢ a = λ e. absurd (omega (arith, was, s.open_, ap (λ (k : ℕ). get_or ds k 0) e)) in
        omega (arith, was, get_or-set_other ds a b d 0 other);
    bounded = λ x. bounded_at (eqb x a) x refl;
  }

pub settled_more : (g : Links) (ds : List ℕ) (n a d : ℕ) → a < length ds → get_or ds a 0 ≡ 0 → IsSettled g ds n
    → d ≡ greatest (map (slice_index ds) (from g a)) + 1 → ((b : ℕ) → Refers g a b → 0 < get_or ds b 0) → IsSettled g (set ds a d) (n + 1)
settled_more g ds n a d inside is_open before depth all = more g ds n a d (record { inside = inside; open_ = is_open; before = before; depth = depth; all = all })

pub settled_on : (g : Links) (ds : List ℕ) (n : ℕ) → IsSettled g ds n → IsSettled g ds (n + 1)
settled_on g ds n s = record { deeper = s.deeper; closed = s.closed; bounded = λ a. omega (arith, s.bounded a) }

no_depth : (n a : ℕ) → get_or (replicate {A = ℕ} n 0) a 0 ≡ 0
no_depth zero a = refl
no_depth (suc n) zero = refl
no_depth (suc n) (suc a) = no_depth n a

-- at first none is settled
pub none_settled : (g : Links) (n : ℕ) → IsSettled g (replicate n 0) 0
none_settled g n = record {
  deeper = λ a h. absurd (omega (arith, no_depth n a));
  closed = λ a b h r. absurd (omega (arith, no_depth n a));
  bounded = λ a. omega (arith, no_depth n a);
}

-- ---- what is settled

-- a settled depth is that which is followed so often
pub settled_within : (g : Links) (ds : List ℕ) (n : ℕ) → IsSettled g ds n → (k a : ℕ) → 0 < get_or ds a 0 → get_or ds a 0 ≤ k → depth_within g k a ≡ get_or ds a 0
settled_within g ds n s zero a positive small = absurd (omega arith)
settled_within g ds n s (suc k) a positive small =
    let own = s.deeper a positive in
    let same : greatest (map (depth_within g k) (from g a)) ≡ greatest (map (slice_index ds) (from g a)) =
    same_greatest (depth_within g k) (slice_index ds) (from g a)
    (λ b r. settled_within g ds n s k b (s.closed a b positive r) (omega (arith, own, at_most (slice_index ds) (from g a) b r, small))) in
    omega (arith, ap suc same, own)

-- what is settled does not reach itself
pub settled_no_return : (g : Links) (ds : List ℕ) (n : ℕ) → IsSettled g ds n → (a : ℕ) → 0 < get_or ds a 0 → reaches_itself g a ≡ false
settled_no_return g ds n s a positive =
    no_return g (λ x. 0 < get_or ds x 0) (slice_index ds)
    (λ x b p r. (s.closed x b p r, omega (arith, s.deeper x p, at_most (slice_index ds) (from g x) b r)))
    (length g) a
    (λ b r. (s.closed a b positive r, omega (arith, s.deeper a positive, at_most (slice_index ds) (from g a) b r)))

pub settled_depths : (g : Links) (ds : List ℕ) → IsSettled g ds (length g) → length ds ≡ length g → All (λ d. 0 < d) ds → ds ≡ depths g
settled_depths g ds s same all =
    fill_by_all (depth g) ds (length g) 0 same
    (λ k l. sym (settled_within g ds (length g) s (length g) k (all k 0 (omega (arith, same, l))) (s.bounded k)))

pub settled_none : (g : Links) (ds : List ℕ) → IsSettled g ds (length g) → length ds ≡ length g → All (λ d. 0 < d) ds → first_recursive g ≡ None
settled_none g ds s same all = none_is (reaches_itself g) (length g) (λ k l. settled_no_return g ds (length g) s k (all k 0 (omega (arith, same, l))))
