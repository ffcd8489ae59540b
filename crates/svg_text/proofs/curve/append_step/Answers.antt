use Rattle.std.proofs.Common.{subst, ◌++◌, ◌∙◌, ◌≡◌, ℤ, ap, rules, w64, FitsSigned}
use Rattle.std.specs.Prelude.{OnOk, codes}
use Rattle.std.specs.Fmt.{decimal}
use Rattle.std.proofs.lemmas.Int.{to_z-of_z}
use Rattle.syn_base.specs.Bytes.{Bytes}
use Rattle.svg_text.specs.Scale.{place}
use Rattle.svg_text.specs.Level.{level}
use Rattle.svg_text.specs.Plot.{step_text}
use Rattle.svg_text.proofs.Appending.{four}
use Rattle.svg_text.proofs.curve.append_step.Goals as goal

pub returns : goal.returns
unfolding step_text
returns c =
    let fits : FitsSigned w64 c.args.value = search rules in
    subst (λ (l : Bytes). OnOk c.append_count-2.result (c.append_count-2.new.out.items ≡ l))
    (four c.args.out.now.items c.append.new.out.items c.append_count.new.out.items c.append-2.new.out.items
    (codes "H") (decimal c.place.result) (codes "V") (decimal c.level.result)
    c.in_ok-append.ensures.text c.in_ok-append_count.ensures.text c.in_ok-append-2.ensures.text
    ∙ (λ i. c.args.out.now.items ++ (codes "H" ++ (decimal (c.place.ensures.place i) ++ (codes "V" ++ decimal (c.level.ensures i)))))
    ∙ ap (λ (v : ℤ). c.args.out.now.items ++ (codes "H" ++ (decimal (place c.args.scale c.args.reaction) ++ (codes "V" ++ decimal (level c.args.range v)))))
    (to_z-of_z w64 c.args.value fits))
    c.append_count-2.ensures.text
