use Rattle.std.proofs.Common.{◌≡◌, ℕ, length, subst, ap, ◌∙◌, arith}
use Rattle.std.specs.Prelude.{IfOk}
use Rattle.self_timed.specs.Acts.{Act}
use Rattle.self_timed.specs.Running.{span}
use Rattle.self_timed.specs.Told.{end_at, start_at}
use Rattle.syn_base.specs.Bytes.{Bytes}
use Rattle.chart_picture.specs.DatesPicture.{dated_picture}
use Rattle.chart_picture.proofs.Told.{picture_is}
use Rattle.chart_picture.proofs.dates.dates_picture.Goals as goal

pub returns : goal.returns
returns c =
    let g = c.args.flat.now in
    let a = c.args.archi.now in
    let s = c.args.schedule.now in
    let ticks = c.args.actual.now in
    let dates = c.in_ok-dates.dates in
    let when = λ (k i : ℕ) (x : Act). span (start_at a.depth g s ticks k i x) (end_at a.depth g s ticks k i) in
    let count = c.in_ok-dates.ensures.dates.count in
    subst (λ (l : Bytes). IfOk c.picture_of.result (λ text. text.items ≡ l))
    (picture_is g s dates when a (length dates) (λ k l i x e. c.in_ok-dates.ensures.dates.each k i x (omega arith) e) ∙ ap (λ (n : ℕ). dated_picture g a s when n) count)
    c.picture_of.ensures
