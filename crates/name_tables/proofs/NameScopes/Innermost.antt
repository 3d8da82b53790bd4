-- The last scope of a list, which is the innermost.
use Rattle.std.proofs.Common.{◌≡◌, ℕ, ◌-◌, ◌<◌, Bool, true, false, refl, sym, ◌∙◌, ap, if◌then◌else◌}
use Rattle.std.proofs.Common.{List, ◌∷◌, length, reverse, slice_index_or, slice_set}
use Rattle.tape_ops.specs.declared.specifier.TagKind.{TagKind}
use Rattle.name_rules.specs.Scopes.{is_kind}
use Rattle.name_lists.specs.Newest as lists
use Rattle.name_lists.proofs.Lasts.{last_in}
use Rattle.name_tables.specs.declared.name_scopes.meant.Meant.{Meant}
use Rattle.name_tables.specs.declared.name_scopes.tags.TagScopes.{TagScopes}
use Rattle.name_tables.specs.NameScopes.Meanings.{OneScope, innermost, outer_scopes, with_name, with_tag}
use Rattle.name_tables.specs.NameScopes.Tabled.{scopes_in, IsBound, in_kind, names_of, tags_of, AreTabled}

-- the last scope s, in whose place w is written
module _ (xs : List OneScope) (len : ℕ) (s w : OneScope) (whole : len ≡ length xs) (some : 0 < len)
    (is : s ≡ slice_index_or xs (len - 1) s) where
  there : (behind : List OneScope) × (reverse xs ≡ s ∷ behind) × (reverse (slice_set xs (len - 1) w) ≡ w ∷ behind)
  there = last_in xs len s w whole some is

  abbrev pub after_write : List OneScope
  after_write = reverse (slice_set xs (len - 1) w)

  -- the innermost scope becomes what f makes of it
  pub written : (old : List OneScope) (f : OneScope → OneScope) → reverse xs ≡ old → w ≡ f s
      → after_write ≡ f (innermost old) ∷ outer_scopes old
  written old f view made =
      there.2 ∙ ap (λ x. x ∷ there.0) made
      ∙ ap (λ (ss : List OneScope). f (innermost ss) ∷ outer_scopes ss) (sym there.1 ∙ view)

  module _ (names : List (List (ℕ × Meant))) (tags : TagScopes) (are : AreTabled (reverse xs) names tags) where
    names_there : names ≡ s.names ∷ names_of there.0
    names_there = are.named ∙ ap names_of there.1

    tags_there : (kind : TagKind) → scopes_in tags kind ≡ in_kind kind s.tags ∷ tags_of kind there.0
    tags_there kind = are.tagged kind ∙ ap (tags_of kind) there.1

    -- it stays as it was
    pub tabled_same : w ≡ s → AreTabled after_write names tags
    tabled_same made = record {
      named = names_there ∙ ap (λ (x : OneScope). x.names ∷ names_of there.0) (sym made) ∙ ap names_of (sym there.2);
      tagged = λ kind. tags_there kind ∙ ap (λ (x : OneScope). in_kind kind x.tags ∷ tags_of kind there.0) (sym made)
          ∙ ap (tags_of kind) (sym there.2);
    }

    -- it has one name more
    pub tabled_name : (name : ℕ) (meant : Meant) (new : List (List (ℕ × Meant))) → w ≡ with_name name meant s
        → new ≡ ((name, meant) ∷ lists.innermost names) ∷ lists.outer_scopes names → AreTabled after_write new tags
    tabled_name name meant new made more = record {
      named = more ∙ ap (λ ns. ((name, meant) ∷ lists.innermost ns) ∷ lists.outer_scopes ns) names_there
          ∙ ap (λ (x : OneScope). x.names ∷ names_of there.0) (sym made) ∙ ap names_of (sym there.2);
      tagged = λ kind. tags_there kind ∙ ap (λ (x : OneScope). in_kind kind x.tags ∷ tags_of kind there.0) (sym made)
          ∙ ap (tags_of kind) (sym there.2);
    }

    -- it has one tag more
    pub tabled_tag : (k : TagKind) (tag number : ℕ) (new : TagScopes) → w ≡ with_tag k tag number s
        → IsBound tags new k tag number → AreTabled after_write names new
    tabled_tag k tag number new made more = record {
      named = names_there ∙ ap (λ (x : OneScope). x.names ∷ names_of there.0) (sym made) ∙ ap names_of (sym there.2);
      tagged = λ kind. more kind
          ∙ ap (λ ts. if is_kind k kind then ((tag, number) ∷ lists.innermost ts) ∷ lists.outer_scopes ts else ts)
          (tags_there kind)
          ∙ by_test (is_kind k kind) (in_kind kind s.tags) (tags_of kind there.0)
          ∙ ap (λ (x : OneScope). in_kind kind x.tags ∷ tags_of kind there.0) (sym made)
          ∙ ap (tags_of kind) (sym there.2);
    }
      where
        by_test : (b : Bool) (ts : List (ℕ × ℕ)) (outer : List (List (ℕ × ℕ)))
            → (if b then ((tag, number) ∷ ts) ∷ outer else ts ∷ outer) ≡ (if b then (tag, number) ∷ ts else ts) ∷ outer
        by_test true ts outer = refl
        by_test false ts outer = refl
