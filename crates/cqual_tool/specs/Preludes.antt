-- The lines of preludes that do not read.
use Rattle.std.specs.Prelude.{ℕ, List, [], codes}
use Rattle.annotate.specs.Texts.{spot_text}
use Rattle.unit_shapes.specs.Faults.{rule_of}
use Rattle.cq_prelude.specs.declared.fault.PreludeFault.{PreludeFault}
use Rattle.cq_prelude.specs.declared.fault.PreludeFault.TheVariants.{BadIndex, HasBody, Lex, NoMemory, Parse, Shape}
use Rattle.cqual_tool.specs.Faults.{lex_line, placed_line}
use Rattle.cqual_tool.specs.Shapes.{shape_code}
use Rattle.cqual_tool.specs.Syntax.{syntax_code}

-- the line of the first fault; want of memory has none
abbrev pub prelude_line : List ℕ → List ℕ → PreludeFault → List ℕ
prelude_line file bytes (Lex fault) = lex_line file bytes fault
prelude_line file bytes (Parse rule spot) = placed_line (spot_text file bytes spot) (syntax_code rule)
prelude_line file bytes (HasBody spot) = placed_line (spot_text file bytes spot) (codes "P1")
prelude_line file bytes (BadIndex spot) = placed_line (spot_text file bytes spot) (codes "P2")
prelude_line file bytes (Shape fault spot) = placed_line (spot_text file bytes spot) (shape_code (rule_of fault.rule))
prelude_line file bytes NoMemory = []
