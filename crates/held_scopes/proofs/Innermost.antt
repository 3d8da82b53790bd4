-- The last scope of a list, which is the innermost.
use Rattle.std.proofs.Common.{◌≡◌, ℕ, ◌-◌, ◌<◌, sym, ◌∙◌, ap}
use Rattle.std.proofs.Common.{List, ◌∷◌, length, reverse, slice_index_or, slice_set}
use Rattle.std.proofs.Common.{None}
use Rattle.typedef_scope.specs.declared.kind.Kind.{Kind}
use Rattle.c_units.specs.HeldScopes.{HeldScope, HeldScopes, innermost, leave}
use Rattle.name_lists.specs.Newest as lists
use Rattle.name_lists.proofs.Lasts.{last_in}
use Rattle.held_scopes.specs.Changed.{bound, without_held}
use Rattle.held_scopes.specs.Named.{names_of}

-- the last scope s, in whose place w is written
module _ (xs : List HeldScope) (len : ℕ) (s w : HeldScope) (whole : len ≡ length xs) (some : 0 < len)
    (is : s ≡ slice_index_or xs (len - 1) s) where
  there : (behind : List HeldScope) × (reverse xs ≡ s ∷ behind) × (reverse (slice_set xs (len - 1) w) ≡ w ∷ behind)
  there = last_in xs len s w whole some is

  abbrev pub after_write : HeldScopes
  after_write = reverse (slice_set xs (len - 1) w)

  -- the innermost scope becomes what f makes of it
  pub written : (old : HeldScopes) (f : HeldScope → HeldScope) → reverse xs ≡ old → w ≡ f s
      → after_write ≡ f (innermost old) ∷ leave old
  written old f view made =
      there.2 ∙ ap (λ x. x ∷ there.0) made
      ∙ ap (λ (ss : HeldScopes). f (innermost ss) ∷ leave ss) (sym there.1 ∙ view)

  -- it lets go the name that it holds
  pub let_go_there : (old : HeldScopes) → reverse xs ≡ old → w ≡ record s { held = None }
      → after_write ≡ without_held old
  let_go_there old view made =
      there.2 ∙ ap (λ x. x ∷ there.0) made ∙ ap (λ ss. without_held ss) (sym there.1 ∙ view)

  -- it stays as it was
  pub same_there : (old : HeldScopes) → reverse xs ≡ old → w ≡ s → after_write ≡ old
  same_there old view made = there.2 ∙ ap (λ x. x ∷ there.0) made ∙ sym there.1 ∙ view

  -- its names stay
  pub names_stay : (names : List (List (ℕ × Kind))) → names ≡ names_of (reverse xs) → w.names ≡ s.names
      → names ≡ names_of after_write
  names_stay names named same =
      named ∙ ap names_of there.1 ∙ ap (λ ns. ns ∷ names_of there.0) (sym same) ∙ ap names_of (sym there.2)

  -- it has one name more
  pub names_more : (name : ℕ) (kind : Kind) (names new : List (List (ℕ × Kind))) → names ≡ names_of (reverse xs)
      → w ≡ bound name kind s → new ≡ ((name, kind) ∷ lists.innermost names) ∷ lists.outer_scopes names
      → new ≡ names_of after_write
  names_more name kind names new named made more =
      more
      ∙ ap (λ ns. ((name, kind) ∷ lists.innermost ns) ∷ lists.outer_scopes ns) (named ∙ ap names_of there.1)
      ∙ ap (λ (x : HeldScope). x.names ∷ names_of there.0) (sym made) ∙ ap names_of (sym there.2)
