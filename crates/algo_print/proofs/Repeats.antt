-- Lines of repetitions add canonical lines.
use Rattle.std.proofs.Common.{◌≡◌, ℕ, ◌+◌, ◌==◌, if◌then◌else◌, Bool, not, ◌||◌, true, false, cond, List, [], ◌∷◌, ◌++◌, length, map, drop, Result, Ok, refl, arith, ap, sym, ◌∙◌, subst, codes}
use Rattle.std.proofs.lemmas.List.{map-append}
use Rattle.syn_base.specs.Name.{is_name}
use Rattle.algo_text.specs.declared.definition.Def.{Def}
use Rattle.algo_text.specs.declared.definition.Body.TheVariants.{Repeat}
use Rattle.algo_text.specs.declared.definition.Frontier.{Frontier}
use Rattle.algo_text.specs.declared.definition.Frontier.TheVariants.{Fork, Diffuse, Iterate, Join}
use Rattle.algo_text.specs.declared.definition.FrontierLine.{FrontierLine}
use Rattle.algo_text.specs.declared.fault.AlgoCause.TheVariants.{BadLine, DuplicateName}
use Rattle.syn_base.specs.declared.limits.LimitKind.TheVariants.{Ports}
use Rattle.syn_base.specs.Bytes.{Bytes}
use Rattle.algo_text.specs.Among.{is_among}
use Rattle.algo_text.specs.Outer.{all_outer}
use Rattle.algo_text.specs.Blocks.{Block, all_names, with_frontier}
use Rattle.algo_text.specs.Text.{in_repeat, Reading, in_block, block_end, frontier_line}
use Rattle.algo_text.proofs.Checks.{either, equal, held, holds, never, passed, passes, same_ok}
use Rattle.text_lines.specs.Refusals.{is_above, refused, above}
use Rattle.algo_print.specs.Canonical.{words_of_frontier, frontier_words}
use Rattle.algo_print.specs.ReadBack.{bare_frontier}
use Rattle.algo_print.proofs.Pieces.{is_word, are_words, and_true}
use Rattle.algo_print.proofs.Spelled.{name_word}
use Rattle.algo_print.proofs.State.{Numbered, numbered_block, numbered, AreSame, Adds, more, same_length, same_outer}
use Rattle.algo_print.proofs.BlockLines.{behind, key_words, IntoBlock, into_block, block_adds, end_adds}
use Rattle.text_lines.specs.Text.{word, begins}
use Rattle.algo_text.specs.Refusals.{AlgoRefusal}

-- a line of two names, of which one is an outer one
abbrev pair_line : Block → ℕ → Frontier → Bytes → Result Block AlgoRefusal
pair_line c m f outer =
    if is_above Ports (length c.frontier + 1) then above Ports (length c.frontier + 1) else
    if is_among outer (all_outer c.frontier) then refused m (DuplicateName outer) else
    Ok (record c { frontier = c.frontier ++ record { frontier = f; line = m } ∷ [] })

behind_two : (ws : List Bytes) → (length ws == 3) ≡ true → drop 1 ws ≡ word ws 1 ∷ word ws 2 ∷ []
behind_two ws h = two ws (equal (length ws) 3 h)
  where
    two : (vs : List Bytes) → length vs ≡ 3 → drop 1 vs ≡ word vs 1 ∷ word vs 2 ∷ []
    two (a ∷ b ∷ c ∷ []) h = refl
    two [] h = absurd (omega (arith, h))
    two (a ∷ []) h = absurd (omega (arith, h))
    two (a ∷ b ∷ []) h = absurd (omega (arith, h))
    two (a ∷ b ∷ c ∷ d ∷ vs) h = absurd (omega (arith, h))

behind_four : (ws : List Bytes) → (length ws == 5) ≡ true → drop 1 ws ≡ word ws 1 ∷ word ws 2 ∷ word ws 3 ∷ word ws 4 ∷ []
behind_four ws h = four ws (equal (length ws) 5 h)
  where
    four : (vs : List Bytes) → length vs ≡ 5 → drop 1 vs ≡ word vs 1 ∷ word vs 2 ∷ word vs 3 ∷ word vs 4 ∷ []
    four (a ∷ b ∷ c ∷ d ∷ e ∷ []) h = refl
    four [] h = absurd (omega (arith, h))
    four (a ∷ []) h = absurd (omega (arith, h))
    four (a ∷ b ∷ []) h = absurd (omega (arith, h))
    four (a ∷ b ∷ c ∷ []) h = absurd (omega (arith, h))
    four (a ∷ b ∷ c ∷ d ∷ []) h = absurd (omega (arith, h))
    four (a ∷ b ∷ c ∷ d ∷ e ∷ f ∷ vs) h = absurd (omega (arith, h))

module _ (k : Numbered) (version : ℕ) (names : List Bytes) (defs : List Def) (b : Block) (same : AreSame k defs b) where
  abbrev here : Reading
  here = record { stage = in_repeat; version = version; names = names; defs = defs; block = b }

  abbrev there : Reading
  there = numbered k here

  abbrev with_line : Frontier → ℕ → Block
  with_line f n = record b { frontier = b.frontier ++ record { frontier = f; line = n } ∷ [] }

  -- the outer names of the same lines with other numbers
  outer_is : all_outer k.frontier ≡ all_outer b.frontier
  outer_is = same_outer k.frontier b.frontier same.frontier_same

  free_again : (w : Bytes) → is_among w (all_outer b.frontier) ≡ false → is_among w (all_outer k.frontier) ≡ false
  free_again w free = ap (is_among w) outer_is ∙ free

  few_again : is_above Ports (length b.frontier + 1) ≡ false → is_above Ports (length k.frontier + 1) ≡ false
  few_again few = ap (λ (m : ℕ). is_above Ports (m + 1)) (same_length bare_frontier k.frontier b.frontier same.frontier_same) ∙ few

  frontier_adds : (n : ℕ) (f : Frontier) → are_words (words_of_frontier f) ≡ true → (length (words_of_frontier f) == 0) ≡ false
      → ((m : ℕ) → frontier_line there m (words_of_frontier f) ≡ in_block there (Ok (numbered_block (record k { frontier = k.frontier ++ record { frontier = f; line = m } ∷ [] }) (with_line f n))))
      → Adds k in_repeat version names defs b (record here { block = with_line f n })
  frontier_adds n f plain some again =
      let at : ℕ → FrontierLine = λ m. record { frontier = f; line = m } in
      block_adds k in_repeat version names defs b same (λ x. refl) (with_line f n) (words_of_frontier f) (λ m. record k { frontier = k.frontier ++ at m ∷ [] }) plain some
      (behind (_ ∷ []) (map frontier_words b.frontier) _ (words_of_frontier f) (map-append frontier_words b.frontier (at n ∷ [])))
      again
      (λ m. record {
        defs_same = same.defs_same;
        references_same = same.references_same;
        edges_same = same.edges_same;
        cases_same = same.cases_same;
        frontier_same = more bare_frontier k.frontier b.frontier (at m) (at n) same.frontier_same refl;
      }) tt

  from : (x : Result Block AlgoRefusal) (r : Reading) (c : Block) (into : IntoBlock here x r) → c ≡ into.block
      → Adds k in_repeat version names defs b (record here { block = c }) → Adds k in_repeat version names defs b r
  from x r c into is adds = subst (λ (q : Reading). Adds k in_repeat version names defs b q) (ap (λ (d : Block). record here { block = d }) is ∙ into.after_is) adds

  two_names : (n : ℕ) (v w : Bytes) (go : Result Block AlgoRefusal) (after : Block) → all_names n (v ∷ w ∷ []) go ≡ Ok after → (is_name v ≡ true) × (is_name w ≡ true) × (go ≡ Ok after)
  two_names n v w go after h =
      let first = held (is_name v) _ _ after h in
      let second = held (is_name w) _ _ after first.1 in
      (first.0, second.0, second.1)

  -- a line of two names, of which the first or the second is an outer one
  pair_step : (key : Bytes) (f : Bytes → Bytes → Frontier) (outer : Bytes → Bytes → Bytes) (n : ℕ) (v w : Bytes) (r : Reading) → is_word key ≡ true
      → ((x y : Bytes) → words_of_frontier (f x y) ≡ key ∷ x ∷ y ∷ [])
      → ((c : Block) (m : ℕ) (x y : Bytes) → with_frontier c m (f x y) ≡ pair_line c m (f x y) (outer x y))
      → ((m : ℕ) (x y : Bytes) → frontier_line there m (key ∷ x ∷ y ∷ []) ≡ in_block there (all_names m (x ∷ y ∷ []) (with_frontier (numbered_block k b) m (f x y))))
      → in_block here (all_names n (v ∷ w ∷ []) (with_frontier b n (f v w))) ≡ Ok r → Adds k in_repeat version names defs b r
  pair_step key f outer n v w r key_word words_are line_is key_line h =
      let x : Result Block AlgoRefusal = all_names n (v ∷ w ∷ []) (with_frontier b n (f v w)) in
      let into : IntoBlock here x r = into_block here x r h in
      let two = two_names n v w (with_frontier b n (f v w)) into.block into.is in
      let few = passed (is_above Ports (length b.frontier + 1)) _ _ into.block (sym (line_is b n v w) ∙ two.2) in
      let free = passed (is_among (outer v w) (all_outer b.frontier)) _ _ into.block few.1 in
      from x r (with_line (f v w) n) into (same_ok _ into.block free.1)
      (frontier_adds n (f v w) (ap are_words (words_are v w) ∙ key_words key v w key_word (name_word v two.0) (name_word w two.1)) (ap (λ (ws : List Bytes). length ws == 0) (words_are v w))
      (λ m. ap (frontier_line there m) (words_are v w) ∙ key_line m v w
      ∙ ap (in_block there) (holds _ _ _ _ two.0 (holds _ _ _ _ two.1 (line_is (numbered_block k b) m v w ∙ passes _ _ _ _ (few_again few.0) (passes _ _ _ _ (free_again (outer v w) free.0) refl))))))

  iterate_step : (n : ℕ) (p x y q : Bytes) (r : Reading) → in_block here (all_names n (p ∷ x ∷ y ∷ q ∷ []) (with_frontier b n (Iterate p x y q))) ≡ Ok r → Adds k in_repeat version names defs b r
  iterate_step n p x y q r h =
      let line : Result Block AlgoRefusal = all_names n (p ∷ x ∷ y ∷ q ∷ []) (with_frontier b n (Iterate p x y q)) in
      let into : IntoBlock here line r = into_block here line r h in
      let first = held (is_name p) _ _ into.block into.is in
      let second = held (is_name x) _ _ into.block first.1 in
      let third = held (is_name y) _ _ into.block second.1 in
      let fourth = held (is_name q) _ _ into.block third.1 in
      let few = passed (is_above Ports (length b.frontier + 1)) _ _ into.block fourth.1 in
      let free = passed (is_among p (all_outer b.frontier)) _ _ into.block few.1 in
      let other = passed (is_among q (p ∷ all_outer b.frontier)) _ _ into.block free.1 in
      from line r (with_line (Iterate p x y q) n) into (same_ok _ into.block other.1)
      (frontier_adds n (Iterate p x y q)
      (and_true (is_word p) _ (name_word p first.0) (key_words x y q (name_word x second.0) (name_word y third.0) (name_word q fourth.0))) refl
      (λ m. ap (in_block there) (holds _ _ _ _ first.0 (holds _ _ _ _ second.0 (holds _ _ _ _ third.0 (holds _ _ _ _ fourth.0
      (passes _ _ _ _ (few_again few.0) (passes _ _ _ _ (free_again p free.0) (passes _ _ _ _ (ap (λ (ns : List Bytes). is_among q (p ∷ ns)) outer_is ∙ other.0) refl)))))))))

  repeat_end : (n : ℕ) (ws : List Bytes) (r : Reading) → block_end true (Repeat b.copies b.def b.frontier) here n ws ≡ Ok r → Adds k in_repeat version names defs b r
  repeat_end n ws r h =
      let form = passed (not (length ws == 1) || not true) _ _ r h in
      subst (λ (x : Reading). Adds k in_repeat version names defs b x) (same_ok _ r form.1)
      (end_adds k in_repeat version names defs b same (λ x. refl) (Repeat b.copies b.def b.frontier) (Repeat b.copies b.def k.frontier) refl
      (ap (λ (ls : List FrontierLine). Repeat b.copies b.def ls) same.frontier_same) tt
      (λ m. refl))

  in_form : (n count : ℕ) (ws all : List Bytes) (go : Result Block AlgoRefusal) (r : Reading) → ((length ws == count) ≡ true → drop 1 ws ≡ all)
      → in_block here (cond (not (length ws == count)) (refused n BadLine) (all_names n (drop 1 ws) go)) ≡ Ok r → in_block here (all_names n all go) ≡ Ok r
  in_form n count ws all go r are h = by (length ws == count) refl h
    where
      by : (t : Bool) → (length ws == count) ≡ t → in_block here (cond (not t) (refused n BadLine) (all_names n (drop 1 ws) go)) ≡ Ok r → in_block here (all_names n all go) ≡ Ok r
      by true e g = ap (λ (l : List Bytes). in_block here (all_names n l go)) (sym (are e)) ∙ g
      by false e g = cc

  pub frontier_step : (n : ℕ) (ws : List Bytes) (r : Reading) → frontier_line here n ws ≡ Ok r → Adds k in_repeat version names defs b r
  frontier_step n ws r h =
      either (begins ws (codes "fork")) _ _ r h
      (λ g. pair_step (codes "fork") Fork (λ x y. x) n (word ws 1) (word ws 2) r refl (λ x y. refl) (λ c m x y. refl) (λ m x y. refl)
      (in_form n 3 ws _ _ r (behind_two ws) g)) (λ h1.
      either (begins ws (codes "diffuse")) _ _ r h1
      (λ g. pair_step (codes "diffuse") Diffuse (λ x y. x) n (word ws 1) (word ws 2) r refl (λ x y. refl) (λ c m x y. refl)
      (λ m x y. refl) (in_form n 3 ws _ _ r (behind_two ws) g)) (λ h2.
      either (begins ws (codes "iterate")) _ _ r h2 (λ g. iterate_step n (word ws 1) (word ws 2) (word ws 3) (word ws 4) r (in_form n 5 ws _ _ r (behind_four ws) g)) (λ h3.
      either (begins ws (codes "join")) _ _ r h3
      (λ g. pair_step (codes "join") Join (λ x y. y) n (word ws 1) (word ws 2) r refl (λ x y. refl) (λ c m x y. refl) (λ m x y. refl)
      (in_form n 3 ws _ _ r (behind_two ws) g)) (λ h4.
      either (begins ws (codes "end")) _ _ r h4 (repeat_end n ws r) (λ h5. never _ r h5)))))
