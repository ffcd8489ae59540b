-- What the plan of a definition has.
use Rattle.std.proofs.Common.{◌≡◌, ◌≢◌, ℕ, zero, suc, ◌<◌, List, [], ◌∷◌, length, get_or, map, Some, refl, ap, sym, ◌∙◌, arith}
use Rattle.std.specs.Prelude.{slice_get}
use Rattle.syn_base.specs.Bytes.{Bytes}
use Rattle.algo_laws.specs.Tree as tree
use Rattle.algo_laws.specs.declared.Def.{Def}
use Rattle.algo_laws.specs.declared.Body.{Body}
use Rattle.algo_laws.specs.declared.Body.TheVariants.{Sensor, Actuator, Constant, Delay, Function, Graph, Switch, Repeat}
use Rattle.algo_laws.specs.RuleLinks.{definition}
use Rattle.algo_laws.specs.Ports.{lens_of, ports_of}
use Rattle.algo_laws.specs.Resolved.{Making, kind_by, vertex_within}
use Rattle.algo_laws.specs.declared.Ports.{Ports}
use Rattle.algo_resolve.specs.Plans.{Planned, plan_of, plan_view}
use Rattle.algo_resolve.specs.declared.plan.Plan.{Plan}
use Rattle.algo_resolve.proofs.Placed.{same_name}

-- what vertices of a name share
pub record Shares (ds : List Def) (w : Bytes) (p : Plan) : Type 0 where
  pub definition : p.definition ≡ w
  pub outs : p.outs ≡ lens_of (ports_of ds w).outs
  pub names : p.names ≡ map (λ o. o.name) (ports_of ds w).outs
  pub guards : p.guards ≡ []

head_same : {A : Type 0} (x y : A) (xs ys : List A) → x ∷ xs ≡ y ∷ ys → x ≡ y
head_same x y xs ys h = cc

tail_same : {A : Type 0} (x y : A) (xs ys : List A) → x ∷ xs ≡ y ∷ ys → xs ≡ ys
tail_same x y xs ys h = cc

module _ (ds : List Def) where
  as_many : (ps : List Plan) (xs : List Def) → map plan_view ps ≡ map (plan_of ds) xs → length ps ≡ length xs
  as_many [] [] h = refl
  as_many [] (x ∷ xs) h = cc
  as_many (p ∷ ps) [] h = cc
  as_many (p ∷ ps) (x ∷ xs) h = ap suc (as_many ps xs (tail_same (plan_view p) (plan_of ds x) (map plan_view ps) (map (plan_of ds) xs) h))

  pub plan_below : (ps : List Plan) (i : ℕ) → map plan_view ps ≡ map (plan_of ds) ds → i < length ds → i < length ps
  plan_below ps i h low = omega (arith, as_many ps ds h, low)

  -- the plan at the place of a definition
  plan_in : (ps : List Plan) (xs : List Def) (i : ℕ) (d : Def) (p : Plan) → map plan_view ps ≡ map (plan_of ds) xs → slice_get xs i ≡ Some d → p ≡ get_or ps i p → plan_view p ≡ plan_of ds d
  plan_in ps [] i d p h at is = cc
  plan_in [] (x ∷ xs) i d p h at is = cc
  plan_in (q ∷ ps) (x ∷ xs) zero d p h at is =
      let same : x ≡ d = cc in
      ap plan_view is ∙ head_same (plan_view q) (plan_of ds x) (map plan_view ps) (map (plan_of ds) xs) h ∙ ap (plan_of ds) same
  plan_in (q ∷ ps) (x ∷ xs) (suc i) d p h at is = plan_in ps xs i d p (tail_same (plan_view q) (plan_of ds x) (map plan_view ps) (map (plan_of ds) xs) h) at is

  pub plan_at : (ps : List Plan) (i : ℕ) (d : Def) (p : Plan) → map plan_view ps ≡ map (plan_of ds) ds → slice_get ds i ≡ Some d → p ≡ get_or ps i p → plan_view p ≡ plan_of ds d
  plan_at ps i d p h at is = plan_in ps ds i d p h at is

  pub shared_by : (w : Bytes) (d : Def) (p : Plan) → definition ds w ≡ Some d → plan_view p ≡ plan_of ds d → Shares ds w p
  shared_by w d p at is =
      let back = sym (same_name ds w d at) in
      record {
        definition = ap (λ (q : Planned). q.definition) is ∙ back;
        outs = ap (λ (q : Planned). q.outs) is ∙ ap (λ (v : Bytes). lens_of (ports_of ds v).outs) back;
        names = ap (λ (q : Planned). q.names) is ∙ ap (λ (v : Bytes). map (λ o. o.name) (ports_of ds v).outs) back;
        guards = ap (λ (q : Planned). q.guards) is;
      }

  -- the kind depends on the making of vertices in nothing
  any_kind : (m n : Making) (own : Ports) (b : Body) → kind_by ds m own 0 0 b ≡ kind_by ds n own 0 0 b
  any_kind m n own (Sensor len) = refl
  any_kind m n own (Actuator len) = refl
  any_kind m n own (Constant values) = refl
  any_kind m n own (Delay depth values) = refl
  any_kind m n own (Function ins outs) = refl
  any_kind m n own (Graph ins outs references edges) = refl
  any_kind m n own (Switch on ins outs cases otherwise last) = refl
  any_kind m n own (Repeat copies def lines) = refl

  pub planned_kind : (make : Making) (w : Bytes) (d : Def) (own : Ports) (k : tree.Kind) → definition ds w ≡ Some d → own ≡ ports_of ds w
      → k ≡ kind_by ds (vertex_within ds 0) (ports_of ds d.name) 0 0 d.body → k ≡ kind_by ds make own 0 0 d.body
  planned_kind make w d own k at own_is is =
      is ∙ any_kind (vertex_within ds 0) make (ports_of ds d.name) d.body
      ∙ ap (λ (o : Ports). kind_by ds make o 0 0 d.body) (ap (ports_of ds) (sym (same_name ds w d at)) ∙ sym own_is)

  -- and on the number of a sensor or an actuator nowhere else
  pub same_kind : (make : Making) (own : Ports) (s a : ℕ) (b : Body) → ((n : ℕ) → b ≢ Sensor n) → ((n : ℕ) → b ≢ Actuator n) → kind_by ds make own 0 0 b ≡ kind_by ds make own s a b
  same_kind make own s a (Sensor len) h k = absurd (h len refl)
  same_kind make own s a (Actuator len) h k = absurd (k len refl)
  same_kind make own s a (Constant values) h k = refl
  same_kind make own s a (Delay depth values) h k = refl
  same_kind make own s a (Function ins outs) h k = refl
  same_kind make own s a (Graph ins outs references edges) h k = refl
  same_kind make own s a (Switch on ins outs cases otherwise last) h k = refl
  same_kind make own s a (Repeat copies def lines) h k = refl

-- what stands beside an element of a mapped list
pub beside : {A B : Type 0} (f : A → B) (ys : List B) (xs : List A) (k : ℕ) (x : A) (y : B) → ys ≡ map f xs → k < length xs → x ≡ get_or xs k x → y ≡ get_or ys k y → y ≡ f x
beside f ys [] k x y h low at is = absurd (omega (arith, low))
beside f [] (z ∷ xs) k x y h low at is = cc
beside f (v ∷ ys) (z ∷ xs) zero x y h low at is = is ∙ head_same v (f z) ys (map f xs) h ∙ ap f (sym at)
beside f (v ∷ ys) (z ∷ xs) (suc k) x y h low at is = beside f ys xs k x y (tail_same v (f z) ys (map f xs) h) (omega (arith, low)) at is

mapped_length : {A B : Type 0} (f : A → B) (xs : List A) → length (map f xs) ≡ length xs
mapped_length f [] = refl
mapped_length f (x ∷ xs) = ap suc (mapped_length f xs)

pub beside_below : {A B : Type 0} (f : A → B) (ys : List B) (xs : List A) (k : ℕ) → ys ≡ map f xs → k < length xs → k < length ys
beside_below {B = B} f ys xs k h low = omega (arith, low, ap (λ (l : List B). length l) h, mapped_length f xs)

-- what stands at a place stands inside the list
pub inside : {A : Type 0} (xs : List A) (i : ℕ) (x : A) → slice_get xs i ≡ Some x → i < length xs
inside [] i x h = cc
inside (y ∷ xs) zero x h = omega arith
inside (y ∷ xs) (suc i) x h = omega (arith, inside xs i x h)
