use Rattle.std.proofs.Common.{◌≡◌, ◌∙◌, Some, None, ap, codes, option_map}
use Rattle.clap.specs.Walk.{rows_of}
use Rattle.clap.specs.Matches.{found_of}
use Rattle.command_words.proofs.Values.{same_some, value_is, name_is}
use Rattle.command_words.proofs.given.given_in.Goals as goal

pub returns-in_err-first : goal.returns-in_err-first
returns-in_err-first c = λ name a b d e w rs h t.
    let r : rows_of (found_of c.in_ok-name.inner.now) ≡ rs = same_some _ _ (c.in_ok-name.ensures.rows ∙ ap (option_map (λ p. p.1)) h) in
    let bad : None ≡ Some a = c.in_err-first.ensures ∙ value_is (found_of c.in_ok-name.inner.now) _ (codes "first") (Some a) r t.first in
    absurd (cc)

pub returns : goal.returns
returns c = λ name a b d e w rs h t.
    let r : rows_of (found_of c.in_ok-name.inner.now) ≡ rs = same_some _ _ (c.in_ok-name.ensures.rows ∙ ap (option_map (λ p. p.1)) h) in
    let n : c.in_ok-name.name.now ≡ name = same_some _ _ (c.in_ok-name.ensures.name ∙ name_is c.args.matches.now ∙ ap (option_map (λ p. p.0)) h) in
    let f : c.in_ok-first.first.now ≡ a = same_some _ _ (c.in_ok-first.ensures ∙ value_is (found_of c.in_ok-name.inner.now) _ (codes "first") (Some a) r t.first) in (
      n,
      f,
      c.get_str-second.ensures ∙ value_is (found_of c.in_ok-name.inner.now) _ (codes "second") b r t.second,
      c.get_str-third.ensures ∙ value_is (found_of c.in_ok-name.inner.now) _ (codes "third") d r t.third,
      c.get_str-fourth.ensures ∙ value_is (found_of c.in_ok-name.inner.now) _ (codes "fourth") e r t.fourth,
      c.get_str-workers.ensures ∙ value_is (found_of c.in_ok-name.inner.now) _ (codes "workers") w r t.workers,
    )
