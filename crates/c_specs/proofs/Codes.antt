-- Numbers for the words of types and of storage.
use Rattle.std.proofs.Common.{ℕ}
use Rattle.c_words.specs.declared.kinds.Keyword.{Keyword}
use Rattle.c_specs.specs.declared.basic.Mark.TheVariants as marks
use Rattle.c_specs.specs.declared.basic.Core.TheVariants as cores
use Rattle.c_specs.specs.declared.basic.Part.{Part}
use Rattle.c_specs.specs.declared.basic.Part.TheVariants as parts
use Rattle.c_specs.specs.declared.storage.Storage.{Storage}
use Rattle.c_specs.specs.declared.storage.Storage.TheVariants.{Nothing, Typedef, Extern, Static, Auto, Register, Thread, ThreadStatic, ThreadExtern}
use Rattle.c_specs.specs.Basic.{part_of}
use Rattle.c_specs.specs.Storage.{storing}

-- a number for each part of a basic type, 0 for marks that are two words and for other words
abbrev pub part_code : Part → ℕ
part_code (parts.Mark marks.Unmarked) = 0
part_code (parts.Mark marks.Signed) = 1
part_code (parts.Mark marks.Unsigned) = 2
part_code (parts.Mark marks.Complex) = 3
part_code (parts.Core cores.Void) = 4
part_code (parts.Core cores.Bool) = 5
part_code (parts.Core cores.Alone) = 6
part_code (parts.Core cores.Char) = 7
part_code (parts.Core cores.Int) = 8
part_code (parts.Core cores.Int128) = 9
part_code (parts.Core cores.Short) = 10
part_code (parts.Core cores.Long) = 11
part_code (parts.Core cores.Float) = 12
part_code (parts.Core cores.Double) = 13
part_code (parts.Mark marks.AnyComplex) = 14
part_code (parts.Mark marks.ComplexSigned) = 0
part_code (parts.Mark marks.ComplexUnsigned) = 0
part_code parts.Other = 0

abbrev pub type_code : Keyword → ℕ
type_code k = part_code (part_of k)

-- a number for each storage word, 0 where it is none or two
abbrev pub storing_code : Storage → ℕ
storing_code Nothing = 0
storing_code Typedef = 1
storing_code Extern = 2
storing_code Static = 3
storing_code Auto = 4
storing_code Register = 5
storing_code Thread = 6
storing_code ThreadStatic = 0
storing_code ThreadExtern = 0

abbrev pub storage_code : Keyword → ℕ
storage_code k = storing_code (storing k)
