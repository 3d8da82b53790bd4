-- Names behind commas are read by a loop.
use Rattle.std.proofs.Common.{◌≡◌, ℕ, ◌≤◌, Bool, true, false, if◌then◌else◌, List, length, ap, arith}
use Rattle.c_tree.specs.declared.lexeme.Lexeme.{Lexeme}
use Rattle.c_syntax.specs.declared.parts.Identifier.{Identifier}
use Rattle.c_reading.specs.Reading.{Found, Reader, Next}
use Rattle.c_reading.specs.Tokens.{name_at}
use Rattle.c_reading.specs.Declaring.{identifier_at, next_name}
use Rattle.c_reading.proofs.Binding.{done, ok_is, bind_ok}
use Rattle.c_reading.proofs.Forms.{Falls, Shrinks, name_falls}
use Rattle.c_reading.proofs.Commas.{comma_turn_shrinks}
use Rattle.c_reading.proofs.DeclrFalls.{identifier_shrinks}
use Rattle.reader_base.specs.Looping.{IsLoop}
use Rattle.reader_base.specs.Lists.{name_turn}
use Rattle.reader_base.proofs.Looping.{is_loop}

name_shrinks : (any : Bool) → Shrinks (if any then name_at else identifier_at)
name_shrinks true s ts x e = omega (arith, name_falls s ts x e)
name_shrinks false s ts x e = identifier_shrinks s ts x e

-- the next name behind a comma, of any kind or no typedef, leaves no more tokens than it was given
next_falls : (any : Bool) (comma : ℕ) → Falls (next_name (if any then name_at else identifier_at) comma)
next_falls any comma s ts x e =
    let a = bind_ok e in
    omega (arith, name_shrinks any s ts a.0 a.1, ap (λ (x : Found (Next Identifier ⊥)). length x.rest) (ok_is a.2))

pub name_loop : (any : Bool) → IsLoop (name_turn any)
unfolding name_turn
name_loop any =
    is_loop (name_turn any) (comma_turn_shrinks (if any then name_at else identifier_at)
    (next_name (if any then name_at else identifier_at)) (next_falls any))
