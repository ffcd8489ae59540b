use Rattle.std.proofs.Common.{rules, ◌≡◌, ℕ, suc, ◌<◌, ◌+◌, ◌*◌, ◌++◌, ◌∙◌, List, length, get_or, ap, arith}
use Rattle.executive_program.specs.declared.program.Program.{Program}
use Rattle.word_rule.specs.Core.{opening, buffer_zeros, wire_zeros}
use Rattle.word_rule.specs.Words.{element_lens, elements_start}
use Rattle.word_table.specs.Weaving.{starts_from, end_from}
use Rattle.word_table.proofs.Starts.{starts_are, words_are}
use Rattle.word_table.proofs.weaving.layout_of.Goals as goal

module _ (c : goal.After-drop-elements-2) where
  same : c.program-program.result.now ≡ c.args.job.now.program
  same = c.program-program.ensures.same

  elements : c.as_slice-2.result.now ≡ (opening c.args.job.now).elements
  elements = c.as_slice-2.ensures.value ∙ c.in_ok-elements.ensures ∙ (λ i. buffer_zeros (same i) ++ wire_zeros (same i) ((c.in_ok-to_u32.ensures.same ∙ c.media-2.ensures) i))

  turns : 1 + 2 * length c.as_slice.result.now ≡ 1 + 2 * length c.args.job.now.program.pairs
  turns = ap (λ (xs : List ℕ). 1 + 2 * length xs) (c.as_slice.ensures ∙ ap (λ (p : Program). p.pairs) same)

  first : c.in-Some.first ≡ 1 + 2 * length c.as_slice.result.now + c.args.job.now.media
  first = let a : c.in-Some.first ≡ 1 + 2 * length c.as_slice.result.now + c.media.result = search rules in let m = c.media.ensures in omega (arith, a, m)

  where_they_begin : (length c.in_ok-starts.starts.items ≡ length (element_lens c.args.job.now))
      × ((h : ℕ) → h < length c.in_ok-starts.starts.items → get_or c.in_ok-starts.starts.items h 0 ≡ elements_start c.args.job.now h)
  where_they_begin = starts_are c.args.job.now c.in-Some.first
      (1 + 2 * length c.as_slice.result.now) c.in_ok-starts.starts.items turns first (c.in_ok-starts.ensures.starts ∙ ap (starts_from c.in-Some.first) elements)

pub returns-clause-turns : goal.returns-clause-turns
returns-clause-turns c = turns c ∙ (let z : 1 + 2 * length c.args.job.now.program.pairs ≡ suc (2 * length c.args.job.now.program.pairs + 0) = omega arith in z)

pub returns-clause-starts_there : goal.returns-clause-starts_there
returns-clause-starts_there c = (where_they_begin c).0

pub returns-clause-starts : goal.returns-clause-starts
returns-clause-starts c = (where_they_begin c).1

pub returns-clause-len : goal.returns-clause-len
returns-clause-len c = c.in_ok-starts.ensures.end ∙ ap (end_from c.in-Some.first) (elements c) ∙ words_are c.args.job.now c.in-Some.first (first c ∙ ap (λ (n : ℕ). n + c.args.job.now.media) (turns c))
