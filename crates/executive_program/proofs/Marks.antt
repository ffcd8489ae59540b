-- Marks of buffers, one more read or write at a time.
use Rattle.std.proofs.Common.{◌≡◌, ℕ, ◌+◌, ◌<◌, ◌⊎◌, inl, inr, Bool, true, false, ◌||◌, ◌&&◌, not, cond, nat_eq, List, take, length, get_or, sym, ap, ◌∙◌}
use Rattle.std.specs.Prelude.{slice_set}
use Rattle.std.specs.List.{list_any}
use Rattle.std.proofs.lemmas.Bool.{cases_eq, eq-eqb, ne_eqb}
use Rattle.std.proofs.lemmas.List.{get_or-set_same, get_or-set_other}
use Rattle.std.proofs.lemmas.List.Folds.{list_any_more}

-- a mark that was put by an earlier test, and then by this one
one_more : (prior test : Bool) (v old mid new : Bool) → mid ≡ cond prior v old → new ≡ cond test v mid → new ≡ cond (prior || test) v old
one_more true true v old mid new a b = b
one_more true false v old mid new a b = b ∙ a
one_more false true v old mid new a b = b
one_more false false v old mid new a b = b ∙ a

pub marked_more : {A : Type 0} (p : A → Bool) (xs : List A) (k : ℕ) (d : A) (v old mid new : Bool) → k < length xs → mid ≡ cond (list_any p (take k xs)) v old → new ≡ cond (p (get_or xs k d)) v mid
    → new ≡ cond (list_any p (take (k + 1) xs)) v old
marked_more p xs k d v old mid new l a b = one_more (list_any p (take k xs)) (p (get_or xs k d)) v old mid new a b ∙ ap (λ (t : Bool). cond t v old) (sym (list_any_more p xs k d l))

-- a mark put at one place
pub put_at : (marks : List Bool) (c b : ℕ) (v : Bool) → b < length marks → get_or (slice_set marks c v) b false ≡ cond (nat_eq c b) v (get_or marks b false)
put_at marks c b v l = by (cases_eq b c)
  where
    by : (b ≡ c) ⊎ (b ≡ c → ⊥) → get_or (slice_set marks c v) b false ≡ cond (nat_eq c b) v (get_or marks b false)
    by (inl e) = rw (eq-eqb c b (sym e), sym e) (get_or-set_same marks b v false l)
    by (inr n) = rw (ne_eqb c b (λ e. n (sym e))) (get_or-set_other marks c b v false n)

-- what is read and not written
pub left_marked : (r w old mid new : Bool) → old ≡ false → mid ≡ cond r true old → new ≡ cond w false mid → new ≡ (r && not w)
left_marked true true old mid new o a b = b
left_marked true false old mid new o a b = b ∙ a
left_marked false true old mid new o a b = b
left_marked false false old mid new o a b = b ∙ a ∙ o
