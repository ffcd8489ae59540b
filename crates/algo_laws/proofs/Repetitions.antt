-- Lines of repetitions.
use Rattle.std.proofs.Common.{◌≡◌, ℕ, ◌==◌, not, true, false, cond, Ok, Err, List, [], ◌∷◌, ◌++◌, length, drop, refl, arith, sym, ap, ◌∙◌, subst, append-nil, append_assoc, bytes_eq, codes, ◌<◌, ◌+◌}
use Rattle.std.specs.Prelude.{All}
use Rattle.std.proofs.lemmas.List.{length-append}
use Rattle.std.proofs.lemmas.List.Elements.{All-append, All-cons, All-head, All-nil, All-tail}
use Rattle.syn_base.specs.Bytes.{Bytes}
use Rattle.syn_base.specs.declared.limits.LimitKind.TheVariants.{Ports}
use Rattle.syn_base.specs.Limits.{bound_of}
use Rattle.text_lines.specs.Refusals.{is_above}
use Rattle.algo_rules.specs.Well.{AreDistinctNames}
use Rattle.algo_rules.specs.declared.Def.{Def}
use Rattle.algo_rules.specs.declared.Body.TheVariants.{Repeat}
use Rattle.algo_rules.specs.declared.Frontier.{Frontier}
use Rattle.algo_rules.specs.declared.Frontier.TheVariants.{Fork, Diffuse, Iterate, Join}
use Rattle.algo_rules.specs.declared.FrontierLine.{FrontierLine}
use Rattle.algo_rules.specs.Among.{is_among}
use Rattle.algo_rules.specs.Outer.{outer_names, all_outer}
use Rattle.algo_rules.specs.Blocks.{Block, all_names, with_frontier, fork_line, diffuse_line, iterate_line, join_line}
use Rattle.algo_rules.specs.Text.{in_repeat, Reading, frontier_line}
use Rattle.algo_rules.proofs.Checks.{either, equal, fewer, neither, never, not_false, passed, same_ok}
use Rattle.algo_rules.specs.WellRead.{IsName, IsRepetition}
use Rattle.algo_laws.proofs.Checks.{names_hold}
use Rattle.algo_laws.proofs.GivenOnce.{new_beside, new_both, distinct_behind}
use Rattle.algo_laws.proofs.Kept.{Kept, IsKept, Goes, reading, line_kept, end_kept}
use Rattle.text_lines.specs.Text.{word, begins}
use Rattle.algo_rules.specs.Refusals.{AlgoRefusal}

all_outer_with : (ls : List FrontierLine) (l : FrontierLine) → all_outer (ls ++ l ∷ []) ≡ all_outer ls ++ outer_names l.frontier
all_outer_with [] l = append-nil (outer_names l.frontier)
all_outer_with (k ∷ ls) l = ap (λ (ns : List Bytes). outer_names k.frontier ++ ns) (all_outer_with ls l) ∙ sym (append_assoc (outer_names k.frontier) (all_outer ls) (outer_names l.frontier))

-- one line more, whose outer names are new
line_goes : (b after : Block) (n : ℕ) (f : Frontier) → IsRepetition b.copies b.frontier → is_above Ports (length b.frontier + 1) ≡ false → All IsName (outer_names f)
    → AreDistinctNames (all_outer b.frontier ++ outer_names f) → record b { frontier = b.frontier ++ record { frontier = f; line = n } ∷ [] } ≡ after → Goes in_repeat b after
line_goes b after n f o few named distinct is =
    let l : FrontierLine = record { frontier = f; line = n } in
    let names : all_outer (b.frontier ++ l ∷ []) ≡ all_outer b.frontier ++ outer_names f = all_outer_with b.frontier l in
    let size : length b.frontier < bound_of Ports = fewer (bound_of Ports) (length b.frontier) few in
    subst (λ (c : Block). Goes in_repeat b c) is (
      refl,
      record {
        some = o.some;
        most = o.most;
        few = omega (arith, length-append b.frontier (l ∷ []));
        named = subst (λ (ns : List Bytes). All IsName ns) (sym names) (All-append IsName (all_outer b.frontier) (outer_names f) o.named named);
        distinct = subst (λ (ns : List Bytes). AreDistinctNames ns) (sym names) distinct;
      },
    )

behind_two : (ws : List Bytes) → (length ws == 3) ≡ true → drop 1 ws ≡ word ws 1 ∷ word ws 2 ∷ []
behind_two ws h = two ws (equal (length ws) 3 h)
  where
    two : (vs : List Bytes) → length vs ≡ 3 → drop 1 vs ≡ word vs 1 ∷ word vs 2 ∷ []
    two (a ∷ b ∷ c ∷ []) h = refl
    two [] h = absurd (omega (arith, h))
    two (a ∷ []) h = absurd (omega (arith, h))
    two (a ∷ b ∷ []) h = absurd (omega (arith, h))
    two (a ∷ b ∷ c ∷ d ∷ vs) h = absurd (omega (arith, h))

behind_four : (ws : List Bytes) → (length ws == 5) ≡ true → drop 1 ws ≡ word ws 1 ∷ word ws 2 ∷ word ws 3 ∷ word ws 4 ∷ []
behind_four ws h = four ws (equal (length ws) 5 h)
  where
    four : (vs : List Bytes) → length vs ≡ 5 → drop 1 vs ≡ word vs 1 ∷ word vs 2 ∷ word vs 3 ∷ word vs 4 ∷ []
    four (a ∷ b ∷ c ∷ d ∷ e ∷ []) h = refl
    four [] h = absurd (omega (arith, h))
    four (a ∷ []) h = absurd (omega (arith, h))
    four (a ∷ b ∷ []) h = absurd (omega (arith, h))
    four (a ∷ b ∷ c ∷ []) h = absurd (omega (arith, h))
    four (a ∷ b ∷ c ∷ d ∷ []) h = absurd (omega (arith, h))
    four (a ∷ b ∷ c ∷ d ∷ e ∷ f ∷ vs) h = absurd (omega (arith, h))

one_name : (w : Bytes) → IsName w → All IsName (w ∷ [])
one_name w h = All-cons IsName w [] h (All-nil IsName)

module _ (b after : Block) (n : ℕ) (o : IsRepetition b.copies b.frontier) where
  abbrev with_line : Frontier → Block
  with_line f = record b { frontier = b.frontier ++ record { frontier = f; line = n } ∷ [] }

  -- a line with one outer name
  one_goes : (many taken : AlgoRefusal) (f : Frontier) (w : Bytes) → outer_names f ≡ w ∷ [] → IsName w
      → cond (is_above Ports (length b.frontier + 1)) (Err many) (cond (is_among w (all_outer b.frontier)) (Err taken) (Ok (with_line f))) ≡ Ok after → Goes in_repeat b after
  one_goes many taken f w outer named h =
      let few = passed (is_above Ports (length b.frontier + 1)) _ _ after h in
      let last = passed (is_among w (all_outer b.frontier)) _ _ after few.1 in
      line_goes b after n f o few.0 (subst (λ (ns : List Bytes). All IsName ns) (sym outer) (one_name w named))
      (subst (λ (ns : List Bytes). AreDistinctNames (all_outer b.frontier ++ ns)) (sym outer) (distinct_behind w (all_outer b.frontier) (new_beside w (all_outer b.frontier) last.0) o.distinct))
      (same_ok (with_line f) after last.1)

  two_goes : (p x y q : Bytes) → IsName p → IsName q → with_frontier b n (Iterate p x y q) ≡ Ok after → Goes in_repeat b after
  two_goes p x y q first second h =
      let all : List Bytes = all_outer b.frontier in
      let few = passed (is_above Ports (length b.frontier + 1)) _ _ after h in
      let new = passed (is_among p all) _ _ after few.1 in
      let last = passed (is_among q (p ∷ all)) _ _ after new.1 in
      let apart = neither (bytes_eq q p) (is_among q all) last.0 in
      line_goes b after n (Iterate p x y q) o few.0 (All-cons IsName p (q ∷ []) first (one_name q second))
      (subst (λ (ns : List Bytes). AreDistinctNames ns) (append_assoc all (p ∷ []) (q ∷ []))
      (distinct_behind q (all ++ p ∷ []) (new_both q all (p ∷ []) (new_beside q all apart.1) (apart.0, tt)) (distinct_behind p all (new_beside p all new.0) o.distinct)))
      (same_ok _ after last.1)

  -- the words of a line of two or four names
  two_words : (ws : List Bytes) → (length ws == 3) ≡ true → All IsName (drop 1 ws) → IsName (word ws 1) × IsName (word ws 2)
  two_words ws form named =
      let all : All IsName (word ws 1 ∷ word ws 2 ∷ []) = subst (λ (l : List Bytes). All IsName l) (behind_two ws form) named in
      (All-head IsName (word ws 1) (word ws 2 ∷ []) all, All-head IsName (word ws 2) [] (All-tail IsName (word ws 1) (word ws 2 ∷ []) all))

  four_words : (ws : List Bytes) → (length ws == 5) ≡ true → All IsName (drop 1 ws) → IsName (word ws 1) × IsName (word ws 4)
  four_words ws form named =
      let p : Bytes = word ws 1 in
      let x : Bytes = word ws 2 in
      let y : Bytes = word ws 3 in
      let q : Bytes = word ws 4 in
      let all : All IsName (p ∷ x ∷ y ∷ q ∷ []) = subst (λ (l : List Bytes). All IsName l) (behind_four ws form) named in
      let last : All IsName (q ∷ []) = All-tail IsName y (q ∷ []) (All-tail IsName x (y ∷ q ∷ []) (All-tail IsName p (x ∷ y ∷ q ∷ []) all)) in
      (All-head IsName p (x ∷ y ∷ q ∷ []) all, All-head IsName q [] last)

  -- a line of two names
  pair_line : (form : AlgoRefusal) (f : Frontier) (ws : List Bytes) → cond (not (length ws == 3)) (Err form) (all_names n (drop 1 ws) (with_frontier b n f)) ≡ Ok after
      → (IsName (word ws 1) × IsName (word ws 2)) × (with_frontier b n f ≡ Ok after)
  pair_line e f ws h =
      let form = passed (not (length ws == 3)) _ _ after h in
      let named = names_hold n (drop 1 ws) (with_frontier b n f) after form.1 in
      (two_words ws (not_false (length ws == 3) form.0) named.0, named.1)

  fork_goes : (ws : List Bytes) → fork_line b n ws ≡ Ok after → Goes in_repeat b after
  fork_goes ws h =
      let f : Frontier = Fork (word ws 1) (word ws 2) in
      let line = pair_line _ f ws h in
      one_goes _ _ f (word ws 1) refl line.0.0 line.1

  diffuse_goes : (ws : List Bytes) → diffuse_line b n ws ≡ Ok after → Goes in_repeat b after
  diffuse_goes ws h =
      let f : Frontier = Diffuse (word ws 1) (word ws 2) in
      let line = pair_line _ f ws h in
      one_goes _ _ f (word ws 1) refl line.0.0 line.1

  join_goes : (ws : List Bytes) → join_line b n ws ≡ Ok after → Goes in_repeat b after
  join_goes ws h =
      let f : Frontier = Join (word ws 1) (word ws 2) in
      let line = pair_line _ f ws h in
      one_goes _ _ f (word ws 2) refl line.0.1 line.1

  iterate_goes : (ws : List Bytes) → iterate_line b n ws ≡ Ok after → Goes in_repeat b after
  iterate_goes ws h =
      let form = passed (not (length ws == 5)) _ _ after h in
      let named = names_hold n (drop 1 ws) (with_frontier b n (Iterate (word ws 1) (word ws 2) (word ws 3) (word ws 4))) after form.1 in
      let ends = four_words ws (not_false (length ws == 5) form.0) named.0 in
      two_goes (word ws 1) (word ws 2) (word ws 3) (word ws 4) ends.0 ends.1 named.1

module _ (version : ℕ) (names : List Bytes) (defs : List Def) (b : Block) (kept : Kept in_repeat names defs b) where
  pub repetition_kept : (n : ℕ) (ws : List Bytes) (r : Reading) → frontier_line (reading in_repeat version names defs b) n ws ≡ Ok r → IsKept r
  repetition_kept n ws r h =
      either (begins ws (codes "fork")) _ _ r h (line_kept in_repeat version names defs b kept (fork_line b n ws) r (λ after e. fork_goes b after n kept.well ws e)) (λ h1.
      either (begins ws (codes "diffuse")) _ _ r h1 (line_kept in_repeat version names defs b kept (diffuse_line b n ws) r (λ after e. diffuse_goes b after n kept.well ws e)) (λ h2.
      either (begins ws (codes "iterate")) _ _ r h2 (line_kept in_repeat version names defs b kept (iterate_line b n ws) r (λ after e. iterate_goes b after n kept.well ws e)) (λ h3.
      either (begins ws (codes "join")) _ _ r h3 (line_kept in_repeat version names defs b kept (join_line b n ws) r (λ after e. join_goes b after n kept.well ws e)) (λ h4.
      either (begins ws (codes "end")) _ _ r h4 (end_kept in_repeat version names defs b kept refl true (Repeat b.copies b.def b.frontier) n ws r (λ e. kept.well)) (λ h5. never _ r h5)))))
