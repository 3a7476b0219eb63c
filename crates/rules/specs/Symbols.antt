-- A symbol of the code as the meaning has it.
use Rattle.std.specs.Prelude.{◌<◌}
use Rattle.meaning.specs.Grammar as grammar
use Rattle.rules.specs.declared.symbol.Symbol.{Symbol}
use Rattle.rules.specs.declared.symbol.Symbol.TheVariants.{Word, Part}

abbrev pub symbol_of : Symbol → grammar.Symbol
symbol_of (Word w) = grammar.word w
symbol_of (Part k c) = grammar.part k c

-- a daughter is what one byte can say, and a constituent what two can
abbrev pub IsSmall : Symbol → Type 0
IsSmall (Word w) = Unit {0}
IsSmall (Part k c) = (k < 256) × (c < 65536)
