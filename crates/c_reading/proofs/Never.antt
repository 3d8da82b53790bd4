-- Readers that are never called: the laws of readers of a number hold of them, since no room is below 0.
use Rattle.std.proofs.Common.{ℕ, ◌<◌, List, arith}
use Rattle.c_tree.specs.declared.lexeme.Lexeme.{Lexeme}
use Rattle.c_reading.specs.Parts.{never}
use Rattle.c_reading.proofs.Aims.{Laws, declr_number}

pub lower : (room : ℕ) → room < 0 → ⊥
lower room h = absurd (omega (arith, h))

-- readers that are never called
pub never_laws : (all : List Lexeme) → Laws all 0 never
never_laws all = record {
  exprs = record {
    shrinks = λ reach begun room s ts x e. absurd cc;
    sound = λ reach room s ts x tail e. absurd cc;
    complete = λ reach room less. absurd (lower room less);
    begun_sound = λ reach begun room row s ts x tail e. absurd cc;
    begun_complete = λ reach begun room row less. absurd (lower room less);
  };
  types = record {
    shrinks = λ room s ts x e. absurd cc;
    sound = λ room s ts x tail e. absurd cc;
    complete = λ room less. absurd (lower room less);
  };
  words = record {
    falls = λ role words room s ts x e. absurd cc;
    shrinks = λ role room s ts x e. absurd cc;
    sound = λ role words room s ts x tail e. absurd cc;
    complete = λ role words rest room less. absurd (lower room less);
  };
  declrs = record {
    falls = λ mode wanted flag room s ts x e. absurd cc;
    shrinks = λ wanted flag room s ts x e. absurd cc;
    sound = λ mode wanted flag room s ts x tail e. absurd cc;
    complete = λ mode wanted flag room less. absurd (lower (declr_number flag room) less);
  };
  lists = record {
    shrinks = λ room s ts x e. absurd cc;
    sound = λ room s ts x tail e. absurd cc;
    complete = λ room less. absurd (lower room less);
  };
  blocks = record {
    shrinks = λ room s ts x e. absurd cc;
    sound = λ room s ts x tail e. absurd cc;
    complete = λ room less. absurd (lower room less);
  };
  stmts = record {
    shrinks = λ room s ts x e. absurd cc;
    sound = λ room s ts x tail e. absurd cc;
    ended = λ room s ts x e. absurd cc;
    complete = λ room less. absurd (lower room less);
  };
}
