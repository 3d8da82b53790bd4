-- What a reader leaves of the scopes: those round the innermost one, and inside an expression also all that an
-- enumerator behind it is refused for.
use Rattle.std.specs.Prelude.{◌≡◌, ℕ, Bool, true, false}
use Rattle.typedef_scope.specs.declared.kind.Kind.TheVariants.{Constant}
use Rattle.c_units.specs.HeldScopes.{HeldScopes, innermost, leave, may_declare}

-- the innermost scope has more enumerators than before, and nothing else is new
pub record Keeps (s t : HeldScopes) : Type 0 where
  pub outer : leave t ≡ leave s
  pub held : (innermost t).held ≡ (innermost s).held
  pub constants : (name : ℕ) → may_declare (innermost s) name Constant ≡ true
      → may_declare (innermost t) name Constant ≡ true

-- what an expression leaves, and what a declaration does
abbrev pub Kept : Bool → HeldScopes → HeldScopes → Type 0
Kept true s t = Keeps s t
Kept false s t = leave t ≡ leave s
