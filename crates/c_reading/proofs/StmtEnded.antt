-- No `else` stands behind a statement that takes one.
use Rattle.std.proofs.Common.{◌≡◌, ℕ, Bool, true, false, List, refl}
use Rattle.std.specs.Prelude.{◌-◌, ◌&&◌}
use Rattle.c_specs.specs.Laws.{MixesGoOn}
use Rattle.c_tree.specs.declared.lexeme.Lexeme.{Lexeme}
use Rattle.c_tree.specs.Tree.{Stmt, switch_stmt, while_stmt, SomeElse}
use Rattle.c_tree.specs.WellFormed.{takes_else, other_takes_else}
use Rattle.c_units.specs.HeldScopes.{HeldScopes, is_wide, names_type, enter}
use Rattle.c_reading.specs.declared.kinds.StmtStart.{StmtStart}
use Rattle.c_reading.specs.declared.kinds.StmtStart.TheVariants as starts
use Rattle.c_reading.specs.Reading.{Found, Reader, kind_at, behind_first, IsNumbered}
use Rattle.c_reading.specs.Tokens.{is_else, is_colon, is_dots, is_star}
use Rattle.c_reading.specs.Parts.{Inner, Begun, nothing}
use Rattle.c_reading.specs.Expressing.{begins_expr}
use Rattle.c_reading.specs.Stating.{stmt_start, range_behind, value_behind, goto_value_with, goto_name, in_own, expr_stmt_with, label_with, case_with, default_with, some_else_with, if_inside, headed_inside, do_inside, for_inside, goto_with, jump_with, return_with, asm_with, attr_stmt_with, named_stmt, stmt_by, stmt_with}
use Rattle.c_reading.proofs.Binding.{done, bind_ok, fits_ok, if_ok}
use Rattle.c_reading.proofs.Forms.{at_end}
use Rattle.c_reading.proofs.Aims.{TokenLaws, Laws}
use Rattle.c_reading.proofs.StmtSound.{part_ended}

-- what was read takes no `else` that stands behind it
abbrev pub Ended : Found Stmt → Type 0
Ended x = takes_else x.tree ≡ true → is_else (kind_at x.rest) ≡ false

module _ (all : List Lexeme) (numbered : IsNumbered all) (tokens : TokenLaws all) (n : ℕ) (inner : Inner)
    (laws : Laws all n inner) (goes : MixesGoOn) where
  inside_ended : (s : HeldScopes) (ts : List Lexeme) (read : Reader Stmt) (x : Found Stmt)
      → ((y : Found Stmt) → read (enter s) ts ≡ done y → Ended y) → in_own read s ts ≡ done x → Ended x
  inside_ended s ts read x inside e = let a = bind_ok e in at_end Ended a.2 (inside a.0 a.1)

  never_taken : {y x : Found Stmt} → done y ≡ done x → takes_else y.tree ≡ false → Ended x
  never_taken e none = at_end Ended e (λ takes. absurd (not_both _ takes none))
    where
      not_both : (b : Bool) → b ≡ true → b ≡ false → ⊥
      not_both true p q = cc
      not_both false p q = cc

  label_ended : (room : ℕ) (s : HeldScopes) (ts : List Lexeme) (x : Found Stmt) → label_with inner room s ts ≡ done x
      → Ended x
  unfolding label_with
  label_ended room s ts x e =
      let a = bind_ok e in
      let b = bind_ok a.2 in
      let c = bind_ok b.2 in
      let d = bind_ok c.2 in
      at_end Ended d.2 (laws.stmts.ended (room - 1) c.0.scopes c.0.rest d.0 d.1)

  expr_stmt_ended : (begun : Begun) (room : ℕ) (s : HeldScopes) (ts : List Lexeme) (x : Found Stmt)
      → expr_stmt_with inner begun room s ts ≡ done x → Ended x
  unfolding expr_stmt_with
  expr_stmt_ended begun room s ts x e =
      let a = bind_ok e in
      let b = bind_ok a.2 in
      never_taken b.2 refl

  some_else_ended : (room : ℕ) (s : HeldScopes) (ts : List Lexeme) (x : Found SomeElse)
      → some_else_with inner room s ts ≡ done x → other_takes_else x.tree ≡ true → is_else (kind_at x.rest) ≡ false
  unfolding some_else_with
  some_else_ended room s ts x e =
      if_ok (is_else (kind_at ts)) e (λ is e.
      let a = bind_ok e in
      let b = bind_ok a.2 in
      at_end (λ (x : Found SomeElse). other_takes_else x.tree ≡ true → is_else (kind_at x.rest) ≡ false) b.2
      (part_ended all numbered tokens n inner laws goes room a.0.scopes a.0.rest b.0 b.1)) (λ is e.
      at_end (λ (x : Found SomeElse). other_takes_else x.tree ≡ true
      → is_else (kind_at x.rest) ≡ false) e (λ takes. is))

  stmt_by_ended : (start : StmtStart) (room : ℕ) (s : HeldScopes) (ts : List Lexeme) (x : Found Stmt)
      → stmt_by inner start room s ts ≡ done x → Ended x
  unfolding stmt_by range_behind value_behind goto_value_with goto_name case_with default_with if_inside headed_inside
      do_inside for_inside goto_with jump_with return_with asm_with attr_stmt_with named_stmt
  stmt_by_ended starts.Block room s ts x e = let a = bind_ok e in never_taken a.2 refl
  stmt_by_ended starts.Semicolon room s ts x e = let a = bind_ok (fits_ok _ _ _ e).1 in never_taken a.2 refl
  stmt_by_ended starts.Attribute room s ts x e =
      let a = bind_ok e in
      let b = bind_ok a.2 in
      never_taken b.2 refl
  stmt_by_ended (starts.Name name) room s ts x e =
      if_ok (is_colon (kind_at (behind_first ts))) (fits_ok _ _ _ e).1 (λ c e. label_ended room s ts x e) (λ c e.
      if_ok (names_type s name) e (λ typed e. absurd cc) (λ typed e. expr_stmt_ended nothing room s ts x e))
  stmt_by_ended starts.Case room s ts x e =
      let a = bind_ok (fits_ok _ _ _ e).1 in
      let b = bind_ok a.2 in
      if_ok (is_wide b.0.scopes && is_dots (kind_at b.0.rest)) b.2 (λ is e.
      let c = bind_ok e in
      let d = bind_ok c.2 in
      let f = bind_ok d.2 in
      let g = bind_ok f.2 in
      at_end Ended g.2 (laws.stmts.ended (room - 1) f.0.scopes f.0.rest g.0 g.1)) (λ is e.
      let c = bind_ok e in
      let d = bind_ok c.2 in
      at_end Ended d.2 (laws.stmts.ended (room - 1) c.0.scopes c.0.rest d.0 d.1))
  stmt_by_ended starts.Default room s ts x e =
      let a = bind_ok (fits_ok _ _ _ e).1 in
      let b = bind_ok a.2 in
      let c = bind_ok b.2 in
      at_end Ended c.2 (laws.stmts.ended (room - 1) b.0.scopes b.0.rest c.0 c.1)
  stmt_by_ended starts.If room s ts x e = inside_ended s ts (if_inside inner room) x (λ y e.
      let a = bind_ok e in
      let b = bind_ok a.2 in
      let c = bind_ok b.2 in
      let d = bind_ok c.2 in
      let f = bind_ok d.2 in
      let g = bind_ok f.2 in
      at_end Ended g.2 (some_else_ended (room - 1) f.0.scopes f.0.rest g.0 g.1)) (fits_ok _ _ _ e).1
  stmt_by_ended starts.Switch room s ts x e = inside_ended s ts (headed_inside inner switch_stmt room) x (λ y e.
      let a = bind_ok e in
      let b = bind_ok a.2 in
      let c = bind_ok b.2 in
      let d = bind_ok c.2 in
      let f = bind_ok d.2 in
      at_end Ended f.2 (part_ended all numbered tokens n inner laws goes (room - 1) d.0.scopes d.0.rest f.0 f.1))
      (fits_ok _ _ _ e).1
  stmt_by_ended starts.While room s ts x e = inside_ended s ts (headed_inside inner while_stmt room) x (λ y e.
      let a = bind_ok e in
      let b = bind_ok a.2 in
      let c = bind_ok b.2 in
      let d = bind_ok c.2 in
      let f = bind_ok d.2 in
      at_end Ended f.2 (part_ended all numbered tokens n inner laws goes (room - 1) d.0.scopes d.0.rest f.0 f.1))
      (fits_ok _ _ _ e).1
  stmt_by_ended starts.Do room s ts x e = inside_ended s ts (do_inside inner room) x (λ y e.
      let a = bind_ok e in
      let b = bind_ok a.2 in
      let c = bind_ok b.2 in
      let d = bind_ok c.2 in
      let f = bind_ok d.2 in
      let g = bind_ok f.2 in
      let h = bind_ok g.2 in
      never_taken h.2 refl) (fits_ok _ _ _ e).1
  stmt_by_ended starts.For room s ts x e = inside_ended s ts (for_inside inner room) x (λ y e.
      let a = bind_ok e in
      let b = bind_ok a.2 in
      let c = bind_ok b.2 in
      let d = bind_ok c.2 in
      let f = bind_ok d.2 in
      let g = bind_ok f.2 in
      let h = bind_ok g.2 in
      let i = bind_ok h.2 in
      at_end Ended i.2 (part_ended all numbered tokens n inner laws goes (room - 1) h.0.scopes h.0.rest i.0 i.1))
      (fits_ok _ _ _ e).1
  stmt_by_ended starts.Goto room s ts x e =
      let a = bind_ok (fits_ok _ _ _ e).1 in
      if_ok (is_wide a.0.scopes && is_star (kind_at a.0.rest)) a.2 (λ is e.
      let b = bind_ok (fits_ok _ _ _ e).1 in
      let c = bind_ok b.2 in
      let d = bind_ok c.2 in
      never_taken d.2 refl) (λ is e.
      let b = bind_ok e in
      let c = bind_ok b.2 in
      never_taken c.2 refl)
  stmt_by_ended starts.Continue room s ts x e =
      let a = bind_ok (fits_ok _ _ _ e).1 in
      let b = bind_ok a.2 in
      never_taken b.2 refl
  stmt_by_ended starts.Break room s ts x e =
      let a = bind_ok (fits_ok _ _ _ e).1 in
      let b = bind_ok a.2 in
      never_taken b.2 refl
  stmt_by_ended starts.Return room s ts x e =
      let a = bind_ok (fits_ok _ _ _ e).1 in
      let b = bind_ok a.2 in
      let c = bind_ok b.2 in
      never_taken c.2 refl
  stmt_by_ended starts.Asm room s ts x e =
      let a = bind_ok (fits_ok _ _ _ e).1 in
      let b = bind_ok a.2 in
      let c = bind_ok b.2 in
      let d = bind_ok c.2 in
      never_taken d.2 refl
  stmt_by_ended starts.Value room s ts x e =
      if_ok (begins_expr s (kind_at ts)) e (λ begun e. expr_stmt_ended nothing room s ts x (fits_ok _ _ _ e).1)
      (λ begun e. absurd cc)

  pub stmt_ended : (room : ℕ) (s : HeldScopes) (ts : List Lexeme) (x : Found Stmt) → stmt_with inner room s ts ≡ done x
      → Ended x
  unfolding stmt_with
  stmt_ended room s ts x e = stmt_by_ended (stmt_start (kind_at ts)) room s ts x e
