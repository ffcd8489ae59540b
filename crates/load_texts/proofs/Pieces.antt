-- Pieces that are appended to a text one after another.
use Rattle.std.proofs.Common.{◌≡◌, ℕ, ◌+◌, List, [], ◌++◌, Result, Ok, Err, OnOk, append_assoc, add-one, subst, sym, ap, ◌∙◌}
use Rattle.load_texts.specs.Algorithm.{edges_of_layers, layer_edges, references_of_layers, layer_references}
use Rattle.load_texts.specs.Table.{rows, row, next_state, state_before, state_after, value_field, value_fields}

-- three pieces after a text
pub three : (a b c o o1 o2 o3 : List ℕ) → o1 ≡ o ++ a → o2 ≡ o1 ++ b → o3 ≡ o2 ++ c → o3 ≡ o ++ (a ++ (b ++ c))
three a b c o o1 o2 o3 p q s = s ∙ (ap (λ (l : List ℕ). l ++ c) (q ∙ ap (λ (l : List ℕ). l ++ b) p) ∙ simp append_assoc)

-- the same after an empty text
pub three_alone : (a b c o o1 o2 o3 : List ℕ) → o ≡ [] → o1 ≡ o ++ a → o2 ≡ o1 ++ b → o3 ≡ o2 ++ c → o3 ≡ a ++ (b ++ c)
three_alone a b c o o1 o2 o3 e p q s = three a b c o o1 o2 o3 p q s ∙ ap (λ (l : List ℕ). l ++ (a ++ (b ++ c))) e

-- three pieces, where the last one is appended if there is memory
pub three_if : {T E : Type 0} (r : Result T E) (a b c o o1 o2 o3 : List ℕ)
    → o1 ≡ o ++ a → o2 ≡ o1 ++ b → OnOk r (o3 ≡ o2 ++ c)
    → OnOk r (o3 ≡ o ++ (a ++ (b ++ c)))
three_if (Ok x) a b c o o1 o2 o3 p q s = three a b c o o1 o2 o3 p q s
three_if (Err e) a b c o o1 o2 o3 p q s = tt

-- four pieces after a text, where the last one is appended if there is memory
pub four : {T E : Type 0} (r : Result T E) (a b c d o o1 o2 o3 o4 : List ℕ)
    → o1 ≡ o ++ a → o2 ≡ o1 ++ b → o3 ≡ o2 ++ c → OnOk r (o4 ≡ o3 ++ d)
    → OnOk r (o4 ≡ o ++ (a ++ (b ++ (c ++ d))))
four (Ok x) a b c d o o1 o2 o3 o4 p q s t =
    t ∙ (ap (λ (l : List ℕ). l ++ d) (s ∙ ap (λ (l : List ℕ). l ++ c) (q ∙ ap (λ (l : List ℕ). l ++ b) p)) ∙ simp append_assoc)
four (Err e) a b c d o o1 o2 o3 o4 p q s t = tt

-- the fields of four values, each of which is that of the state after the one before it
pub four_fields : {T E : Type 0} (r : Result T E) (u u1 u2 u3 : ℕ) (o o1 o2 o3 o4 : List ℕ)
    → u1 ≡ next_state u → u2 ≡ next_state u1 → u3 ≡ next_state u2
    → o1 ≡ o ++ value_field (next_state u) → o2 ≡ o1 ++ value_field (next_state u1)
    → o3 ≡ o2 ++ value_field (next_state u2) → OnOk r (o4 ≡ o3 ++ value_field (next_state u3))
    → OnOk r (o4 ≡ o ++ value_fields u)
four_fields r u u1 u2 u3 o o1 o2 o3 o4 e1 e2 e3 p q s t =
    let at2 : u2 ≡ state_after 2 u = e2 ∙ ap next_state e1 in
    let at3 : u3 ≡ state_after 3 u = e3 ∙ ap next_state at2 in
    four r (value_field (state_after 1 u)) (value_field (state_after 2 u)) (value_field (state_after 3 u)) (value_field (state_after 4 u))
    o o1 o2 o3 o4 p
    (subst (λ (v : ℕ). o2 ≡ o1 ++ value_field (next_state v)) e1 q)
    (subst (λ (v : ℕ). o3 ≡ o2 ++ value_field (next_state v)) at2 s)
    (subst (λ (v : ℕ). OnOk r (o4 ≡ o3 ++ value_field (next_state v))) at3 t)

-- one layer more
pub references-more : (l : ℕ) → references_of_layers (l + 1) ≡ references_of_layers l ++ layer_references (l + 1)
references-more l = ap references_of_layers (add-one l) ∙ ap (λ k. references_of_layers l ++ layer_references k) (sym (add-one l))

pub edges-more : (l : ℕ) → edges_of_layers (l + 1) ≡ edges_of_layers l ++ layer_edges l
edges-more l = ap edges_of_layers (add-one l)

-- one row more
pub rows-more : (load k : ℕ) → rows load (k + 1) ≡ rows load k ++ row k (state_before load k)
rows-more load k = ap (rows load) (add-one k)

pub state-more : (load k : ℕ) → state_before load (k + 1) ≡ state_after 4 (state_before load k)
state-more load k = ap (state_before load) (add-one k)

-- a text that is followed by `before`, and then by a piece more
pub after_more : (o o1 o2 before piece whole : List ℕ)
    → o1 ≡ o ++ before → o2 ≡ o1 ++ piece → whole ≡ before ++ piece → o2 ≡ o ++ whole
after_more o o1 o2 before piece whole p q e = q ∙ (ap (λ (l : List ℕ). l ++ piece) p ∙ (simp append_assoc (ap (λ (l : List ℕ). o ++ l) (sym e))))
