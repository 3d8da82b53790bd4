-- What a program of units finds at the key token of an expression is that expression's shape.
use Rattle.std.specs.Prelude.{◌≡◌, All, Contains, Bool, List, ◌++◌, Some, map}
use Rattle.tape_ops.specs.declared.op.Op.{Op}
use Rattle.c_tree.specs.Tree.{Expr}
use Rattle.c_tree.specs.Ends.{key_token}
use Rattle.c_tape.specs.Tape.{expr_tape, tape_of}
use Rattle.name_rules.specs.Spellings.{place}
use Rattle.name_rules.specs.Scopes.{Names}
use Rattle.type_rules.specs.Program.{Source}
use Rattle.type_rules.specs.Shapes.{shape_of}
use Rattle.resolve_laws.specs.NameLaws.NameLaws.{tape_of_source}
use Rattle.row_laws.specs.KeyLaws.Differing.{IsRead, UnitsDiffer}
use Rattle.expr_types.specs.Along.{shapes_among, first_at}

-- of units that were read, no two of one number: where the tape of an expression is a part of that of one of them
abbrev pub ShapesAreFound : Type 0
ShapesAreFound =
    (sources : List Source) → All IsRead sources → UnitsDiffer sources → (s : Names) (it : Source) → Contains sources it
    → (before : List Op) (called : Bool) (e : Expr) (behind : List Op)
    → tape_of it.items ≡ before ++ expr_tape called e ++ behind
    → first_at (shapes_among s (map tape_of_source sources)) (place it.spelling (key_token e))
    ≡ Some (shape_of it.spelling s e)
