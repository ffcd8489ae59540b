use Rattle.std.proofs.Common.{◌≡◌, ◌%◌, ◌<◌, ℕ, length, ap, sym, subst, ◌∙◌}
use Rattle.word_table.specs.Answers.{Answers, AnswersAlone, DrivesEvery}
use Rattle.word_table.specs.Driver.{FabricData, DriverData}
use Rattle.word_table.specs.Parts.{driver_view, fabric_view}
use Rattle.word_table.proofs.Told.{own_driver, of_views, told_of, alone_answers}
use Rattle.word_table.proofs.fabric.Fabric.try_micro.Goals as goal

pub try_micro-answer-requires-clause-of : goal.try_micro-answer-requires-clause-of
try_micro-answer-requires-clause-of c = of_views c.self.inside.parts c.driver.inside.parts (ap (λ (d : DriverData). d.fabric) c.driver.view_is ∙ c.requires.of ∙ sym c.self.view_is) c.driver.invariant

pub try_micro-answer-requires-clause-there : goal.try_micro-answer-requires-clause-there
try_micro-answer-requires-clause-there c = subst (λ (f : FabricData). c.args.seq < length f.job.program.seqs) (sym c.self.view_is) c.requires.there

pub try_micro-answer-requires-clause-drives : goal.try_micro-answer-requires-clause-drives
try_micro-answer-requires-clause-drives c = let q = c.requires in let seq = c.args.seq in
    ap (λ (n : ℕ). seq % n) (ap (λ (d : DriverData). d.fabric.groups) c.driver.view_is ∙ ap (λ (f : FabricData). f.groups) q.of) ∙ q.drives ∙ sym (ap (λ (d : DriverData). d.group) c.driver.view_is)

pub invariant_of-driver : goal.invariant_of-driver
invariant_of-driver c = own_driver c.self.inside.parts c.try_micro-answer.new.driver c.try_micro-answer.ensures.of

pub returns-clause-of : goal.returns-clause-of
returns-clause-of c = let s = c.try_micro-answer.ensures.same in
    (λ i. record { table = s.table i; job = s.job i; groups = s.groups i }) ∙ ap (λ (d : DriverData). d.fabric) c.driver.view_is ∙ c.requires.of

pub returns-clause-group : goal.returns-clause-group
returns-clause-group c = c.try_micro-answer.ensures.same.group ∙ ap (λ (d : DriverData). d.group) c.driver.view_is

pub returns-clause-answer : goal.returns-clause-answer
returns-clause-answer c = subst (λ (d : DriverData). Answers d (driver_view c.try_micro-answer.new.driver) c.args.seq c.try_micro-answer.result) c.driver.view_is c.try_micro-answer.ensures.answer

pub returns-clause-told : goal.returns-clause-told
returns-clause-told c = told_of c.self.inside.parts c.try_micro-answer.new.driver c.self.invariant c.try_micro-answer.ensures.of

pub returns-clause-alone : goal.returns-clause-alone
returns-clause-alone c every = let q = c.requires in let w = c.self.inside.parts in let d = c.driver.inside.parts in
    let e = c.try_micro-answer.new.driver in let s = c.try_micro-answer.ensures.same in let seq = c.args.seq in
    let of : (driver_view d).fabric ≡ fabric_view w = ap (λ (d : DriverData). d.fabric) c.driver.view_is ∙ q.of ∙ sym c.self.view_is in
    subst (λ (x : DriverData). AnswersAlone x (driver_view e) seq c.try_micro-answer.result) c.driver.view_is
    (alone_answers w d e seq c.try_micro-answer.result c.self.invariant (of_views w d of c.driver.invariant) c.try_micro-answer.ensures.of
    (subst DrivesEvery (sym c.driver.view_is) every) s.groups s.group
    (subst (λ (f : FabricData). c.args.seq < length f.job.program.seqs) (sym c.self.view_is) q.there) c.try_micro-answer.ensures.answer)
