-- Behind a row of items stands nothing that begins one more.
use Rattle.std.proofs.Common.{◌≡◌, ℕ, Bool, true, false, if◌then◌else◌, List, [], ◌∷◌, ◌++◌, Option, Some, None, Ok, refl, arith}
use Rattle.c_words.specs.declared.kinds.TokenKind.{TokenKind}
use Rattle.c_tree.specs.declared.lexeme.Lexeme.{Lexeme}
use Rattle.c_units.specs.HeldScopes.{HeldScopes}
use Rattle.c_reading.specs.Reading.{Found, Reader, fits, take_one, kind_at, repeated, repeated_turn, and_then, ends}
use Rattle.c_reading.specs.Tokens.{is_extension, extensions_at}
use Rattle.c_reading.proofs.Binding.{done, fits_ok, take_falls}
use Rattle.c_reading.proofs.Forms.{Shrinks}
use Rattle.c_reading.proofs.Rows.{row_turn_shrinks}
use Rattle.c_reading.proofs.Groups.{run_stops}
use Rattle.c_reading.proofs.Aims.{TokenLaws}

module _ {T : Type 0} (begins : TokenKind → Bool) (read : Reader T) where
  no_turn : (xs : List T) (s : HeldScopes) (ts : List Lexeme) → repeated_turn begins read xs s ts ≡ None
      → begins (kind_at ts) ≡ false
  no_turn xs s ts is = by_test (begins (kind_at ts)) refl is
    where
      by_test : (b : Bool) → begins (kind_at ts) ≡ b
          → (if b then Some (and_then (read s ts) (λ y. ends (xs ++ y.tree ∷ []) y.scopes y.rest)) else None) ≡ None
          → begins (kind_at ts) ≡ false
      by_test true t is = absurd cc
      by_test false t is = t

  pub repeated_stops : Shrinks read → (s : HeldScopes) (ts : List Lexeme) (x : Found (List T))
      → repeated begins read s ts ≡ done x → begins (kind_at x.rest) ≡ false
  unfolding repeated
  repeated_stops shrinks s ts x e =
      no_turn x.tree x.scopes x.rest
      (run_stops (repeated_turn begins read) (row_turn_shrinks begins read shrinks) [] s ts x e)

pub exts_stop : {all : List Lexeme} → TokenLaws all
    → (room : ℕ) (s : HeldScopes) (ts : List Lexeme) (x : Found (List ℕ)) → extensions_at room s ts ≡ done x
    → is_extension (kind_at x.rest) ≡ false
unfolding extensions_at
exts_stop tokens room s ts x e = repeated_stops is_extension (λ s ts. fits 2 room ts (take_one s ts)) one s ts x e
  where
    one : Shrinks (λ s ts. fits 2 room ts (take_one s ts))
    one s ts x e = let less = take_falls s ts x (fits_ok _ _ _ e).1 in omega (arith, less)
