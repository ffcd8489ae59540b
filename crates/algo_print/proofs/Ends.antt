-- Ends of edges are words, and are read back.
use Rattle.std.proofs.Common.{◌≡◌, ℕ, ◌<◌, ◌&&◌, Bool, true, false, cond, [], ◌∷◌, ◌++◌, length, get_or, Some, None, refl, sym, ap, ◌∙◌, ◌+◌, subst, arith, length-drop}
use Rattle.std.specs.List.{before_first, after_first, position_or_len}
use Rattle.std.proofs.lemmas.List.Sums.{split_at_first, passes_at_first}
use Rattle.syn_base.specs.Name.{is_name}
use Rattle.algo_text.specs.declared.definition.End.{End}
use Rattle.syn_base.specs.Bytes.{Bytes}
use Rattle.algo_text.specs.Words.{is_dot, end_of, end_word}
use Rattle.algo_print.proofs.Pieces.{is_plain, is_word, word_more, plain_word, joins}
use Rattle.algo_print.proofs.Spelled.{name_word}

pub record EndRead (w : Bytes) (e : End) : Type 0 where
  pub word_is : end_word e ≡ w
  pub plain : is_word (end_word e) ≡ true

is_46 : (b : ℕ) → is_dot b ≡ true → b ≡ 46
is_46 b h = grind arith

-- a name stands after the first dot, so that there is one
dot_inside : (w : Bytes) → is_name (after_first is_dot w) ≡ true → position_or_len is_dot w < length w
dot_inside w h =
    let some : 0 < length (after_first is_dot w) = name_some (after_first is_dot w) h in
    omega (arith, some, length-drop (position_or_len is_dot w + 1) w)
  where
    name_some : (v : Bytes) → is_name v ≡ true → 0 < length v
    name_some [] h = cc
    name_some (b ∷ bs) h = omega arith

split_is : (w : Bytes) → is_name (after_first is_dot w) ≡ true → before_first is_dot w ++ 46 ∷ after_first is_dot w ≡ w
split_is w h =
    let inside = dot_inside w h in
    let dot : get_or w (position_or_len is_dot w) 0 ≡ 46 = is_46 _ (passes_at_first is_dot w 0 inside) in
    sym (split_at_first is_dot w 0 inside ∙ ap (λ (b : ℕ). before_first is_dot w ++ b ∷ after_first is_dot w) dot)

pub end_read : (w : Bytes) (e : End) → end_of w ≡ Some e → EndRead w e
end_read w e h = by (is_name w) (is_name (before_first is_dot w)) (is_name (after_first is_dot w)) refl refl refl h
  where
    by : (whole front back : Bool) → is_name w ≡ whole → is_name (before_first is_dot w) ≡ front → is_name (after_first is_dot w) ≡ back
        → cond whole (Some (record { owner = None; port = w })) (cond (front && back) (Some (record { owner = Some (before_first is_dot w); port = after_first is_dot w })) None) ≡ Some e → EndRead w e
    by true front back named first second is =
        let same : record { owner = None; port = w } ≡ e = cc in
        subst (λ (x : End). EndRead w x) same (record { word_is = refl; plain = name_word w named })
    by false true true named first second is =
        let same : record { owner = Some (before_first is_dot w); port = after_first is_dot w } ≡ e = cc in
        subst (λ (x : End). EndRead w x) same (record {
          word_is = split_is w second;
          plain = word_more (before_first is_dot w) (46 ∷ after_first is_dot w) (name_word (before_first is_dot w) first)
              (joins is_plain (46 ∷ []) (after_first is_dot w) refl (plain_word (after_first is_dot w) (name_word (after_first is_dot w) second)));
        })
    by false true false named first second is = cc
    by false false back named first second is = cc

-- what was read as an end is read again
pub end_again : (w : Bytes) (e : End) → end_of w ≡ Some e → end_of (end_word e) ≡ Some e
end_again w e h = ap end_of ((end_read w e h).word_is) ∙ h
