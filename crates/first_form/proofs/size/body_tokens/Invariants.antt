use Rattle.std.proofs.Common.{◌≡◌, ◌≤◌, ◌+◌, drop}
use Rattle.std.specs.Prelude.{min}
use Rattle.first_form.specs.Shown.{shown_body}
use Rattle.first_form.specs.Size.{body_tokens}
use Rattle.first_form.proofs.size.body_tokens.Given as goal

-- the tokens so far, and those of what is left
abbrev pub invariant-statements : goal.invariant-statements
invariant-statements l = (l.tokens ≤ 65537) × (min (l.tokens + body_tokens (shown_body (drop l.s-index l.body))) 65537 ≡ min (body_tokens (shown_body l.body)) 65537)
