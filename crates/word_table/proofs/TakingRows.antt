-- The rows of a group's actuators are taken over, operation by operation.
use Rattle.std.proofs.Common.{◌≡◌, ℕ, ◌+◌, ◌%◌, ◌<◌, ◌≤◌, ◌⊎◌, inl, inr, ⊎_elim, true, List, length, get_or, Some, refl, sym, ap, subst, arith, ◌∙◌}
use Rattle.std.specs.Prelude.{slice_get}
use Rattle.std.proofs.lemmas.Bool.{cases_eq}
use Rattle.std.proofs.lemmas.Option.{same_Some, slice_get_within, slice_get_read}
use Rattle.syn_base.specs.Rows.{Reactions}
use Rattle.executive_program.specs.declared.Kind.TheVariants.{Actuator}
use Rattle.executive_program.specs.declared.Vertex.{Vertex}
use Rattle.executive_program.specs.FlatValid.{is_flat}
use Rattle.word_rule.specs.Job.{JobData}
use Rattle.word_rule.specs.Agrees.{row_at}
use Rattle.word_rule.proofs.AgreeDelays.{same_actuator}
use Rattle.word_table.specs.Ends.{AreWide, TakesRow, TakesRows}

same_number : (a b : ℕ) → Actuator a ≡ Actuator b → a ≡ b
same_number a b e = cc

module _ (j : JobData) (old others : Reactions) (callers : List ℕ) (groups group : ℕ) where
  -- the rows of the group's actuators among the operations below v are the others', and no other row is
  abbrev pub AreTaken : ℕ → Reactions → Type 0
  AreTaken v rows = (rows.lens ≡ old.lens)
      × (length rows.reactions ≡ length old.reactions)
      × AreWide rows
      × ((u a k : ℕ) (x : Vertex) → u < v → slice_get j.graph.vertices u ≡ Some x → x.kind ≡ Actuator a → get_or callers u 0 % groups ≡ group → row_at rows.reactions k a ≡ row_at others.reactions k a)
      × ((u a k : ℕ) (x : Vertex) → slice_get j.graph.vertices u ≡ Some x → x.kind ≡ Actuator a → (get_or callers u 0 % groups ≡ group → ⊥) → row_at rows.reactions k a ≡ row_at old.reactions k a)

  -- operation v is read where it stands
  pub stands_read : (xs : List Vertex) → xs ≡ j.graph.vertices → (v : ℕ) (x : Vertex) → v < length xs → x ≡ get_or xs v x → slice_get j.graph.vertices v ≡ Some x
  stands_read xs e v x l i = ap (λ (l : List Vertex). slice_get l v) (sym e) ∙ slice_get_read xs (length xs) v x refl l i

  pub one_taken : is_flat j.graph ≡ true → (v a : ℕ) (y : Vertex) → slice_get j.graph.vertices v ≡ Some y → y.kind ≡ Actuator a → get_or callers v 0 % groups ≡ group
      → (rows new : Reactions) → TakesRow rows new others a → AreTaken v rows → AreTaken (v + 1) new
  one_taken valid v a y stands kind grouped rows new t i = (
    t.lens ∙ i.0,
    t.many ∙ i.1,
    t.wide,
    λ u b k x l e q g. here u b k x l e q g (cases_eq b a),
    λ u b k x e q n. t.elsewhere k b (other u b x e q n) ∙ i.4 u b k x e q n,
  )
    where
      -- an operation after the other, but not this one
      before : (u b : ℕ) (x : Vertex) → u < v + 1 → slice_get j.graph.vertices u ≡ Some x → x.kind ≡ Actuator b → (b ≡ a → ⊥) → (u < v) ⊎ (u ≡ v) → u < v
      before u b x l e q n (inl h) = h
      before u b x l e q n (inr h) = let s : x ≡ y = same_Some x y (sym e ∙ ap (λ (m : ℕ). slice_get j.graph.vertices m) h ∙ stands) in
          absurd (n (same_number b a (sym q ∙ ap (λ (z : Vertex). z.kind) s ∙ kind)))

      here : (u b k : ℕ) (x : Vertex) → u < v + 1 → slice_get j.graph.vertices u ≡ Some x → x.kind ≡ Actuator b
          → get_or callers u 0 % groups ≡ group → (b ≡ a) ⊎ (b ≡ a → ⊥) → row_at new.reactions k b ≡ row_at others.reactions k b
      here u b k x l e q g (inl h) = subst (λ (c : ℕ). row_at new.reactions k c ≡ row_at others.reactions k c) (sym h) (t.here k)
      here u b k x l e q g (inr n) = t.elsewhere k b n ∙ i.3 u b k x (before u b x l e q n (⊎_elim (λ h. inr h) (λ h. inl (omega (arith, h, l))) (cases_eq u v))) e q g

      other : (u b : ℕ) (x : Vertex) → slice_get j.graph.vertices u ≡ Some x → x.kind ≡ Actuator b → (get_or callers u 0 % groups ≡ group → ⊥) → b ≡ a → ⊥
      other u b x e q n h = n (ap (λ (w : ℕ). get_or callers w 0 % groups) (same_actuator j.graph valid u v a x y e stands (q ∙ ap Actuator h) kind) ∙ grouped)

  pub none_taken : (v : ℕ) (rows : Reactions)
      → ((x : Vertex) (a : ℕ) → slice_get j.graph.vertices v ≡ Some x → x.kind ≡ Actuator a → get_or callers v 0 % groups ≡ group → ⊥)
      → AreTaken v rows → AreTaken (v + 1) rows
  none_taken v rows none i = (i.0, i.1, i.2, λ u b k x l e q g. at u b k x l e q g (cases_eq u v), i.4)
    where
      at : (u b k : ℕ) (x : Vertex) → u < v + 1 → slice_get j.graph.vertices u ≡ Some x → x.kind ≡ Actuator b → get_or callers u 0 % groups
          ≡ group → (u ≡ v) ⊎ (u ≡ v → ⊥) → row_at rows.reactions k b ≡ row_at others.reactions k b
      at u b k x l e q g (inl h) = absurd (none x b (ap (λ (m : ℕ). slice_get j.graph.vertices m) (sym h) ∙ e) q (ap (λ (m : ℕ). get_or callers m 0 % groups) (sym h) ∙ g))
      at u b k x l e q g (inr n) = i.3 u b k x (omega (arith, n, l)) e q g

  pub all_taken : (v : ℕ) (rows : Reactions) → length j.graph.vertices ≤ v → AreTaken v rows → TakesRows j old rows others callers groups group
  all_taken v rows l i = record {
    lens = i.0;
    many = i.1;
    wide = i.2;
    here = λ u a k x e q g. i.3 u a k x (let w = slice_get_within j.graph.vertices u x e in omega (arith, w, l)) e q g;
    elsewhere = i.4;
  }
