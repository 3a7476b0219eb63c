use mathlib.Core.Path.{ap, sym, ◌∙◌}
use Rattle.meaning.specs.Grammar.{word}
use Rattle.rules.proofs.Symbols.{symbol-word, symbol-part}
use Rattle.rules.proofs.symbol.symbol_at.Goals as goal

pub returns-then-kind-eq0-clause-symbol : goal.returns-then-kind-eq0-clause-symbol
returns-then-kind-eq0-clause-symbol c = let a = c.args in
    ap word c.number_at-number.ensures ∙ symbol-word a.table.now a.at (sym c.byte_at.ensures.0 ∙ sym c.from-kind.ensures ∙ c.if-kind-eq0.true)

pub returns-clause-symbol : goal.returns-clause-symbol
returns-clause-symbol c = let a = c.args in
    rw (c.saturating_sub.ensures, c.from.ensures, c.number_at-number.ensures, c.from-kind.ensures, c.byte_at.ensures.0)
    (symbol-part a.table.now a.at (λ e. c.if-kind-eq0.false (c.from-kind.ensures ∙ c.byte_at.ensures.0 ∙ e)))
