use Rattle.std.proofs.Common.{ℕ, List, subst, sym, ap, ◌∙◌}
use Rattle.std.specs.List.Sorted.{IsNonDecreasing}
use Rattle.macro_code.specs.ReadText.{is_among}
use Rattle.code_lines.proofs.Ascending.{found}
use Rattle.code_lines.proofs.numbers.Numbers.has.Goals as goal

pub returns : goal.returns
returns c =
    let order = subst (λ (l : List ℕ). IsNonDecreasing l) (sym c.deref.ensures.value) c.self.invariant in
    c.is_ok.ensures.value
    ∙ found c.deref.result.now c.args.number c.binary_search.result order c.binary_search.ensures.position
    ∙ ap (λ (l : List ℕ). is_among l c.args.number) (c.deref.ensures.value ∙ c.self.view_is)
