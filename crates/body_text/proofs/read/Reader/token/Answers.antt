use Rattle.body_text.specs.Cut.{token_view}
use Rattle.body_text.proofs.Heads.{first_at}
use Rattle.body_text.proofs.read.Reader.token.Goals as goal

pub returns-then-at-self : goal.returns-then-at-self
returns-then-at-self c = first_at (λ p. token_view p.token) c.args.self.now.tokens.now c.args.at _ c.if-at-self.true
