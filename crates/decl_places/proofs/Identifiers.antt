-- An identifier of a list: a name that is no typedef name. A fresh name is one.
use Rattle.std.proofs.Common.{◌≡◌, ℕ, Bool, true, false, List, [], ◌∷◌, inl, refl}
use Rattle.c_words.specs.declared.kinds.TokenKind.{TokenKind}
use Rattle.c_words.specs.declared.kinds.TokenKind.TheVariants as kinds
use Rattle.c_tree.specs.declared.lexeme.Lexeme.{Lexeme}
use Rattle.c_units.specs.HeldScopes.{HeldScopes}
use Rattle.c_reading.specs.declared.kinds.FaultKind.TheVariants.{Unexpected}
use Rattle.c_reading.specs.Reading.{ends, kind_at}
use Rattle.c_reading.specs.Tokens.{spelled_name, identifier_of, name_at}
use Rattle.c_reading.specs.Declaring.{is_identifier, identifier_at}
use Rattle.c_reading.proofs.DeclrFalls.{identifier_shrinks}
use Rattle.reading_steps.specs.Fresh.{fresh}
use Rattle.reading_steps.specs.Steps.{any, Good, Law}
use Rattle.reading_steps.proofs.Keeping.{kept_refl}
use Rattle.reading_steps.proofs.Fresh.{fresh_free, free_names_no_type}
use Rattle.reading_steps.proofs.Steps.{kind_same, refused_here, good_as}
use Rattle.token_places.proofs.Single.{name_good}

-- a list's identifier is read, refused and completed lawfully, before any token, where its front is each name
pub identifier_law : (keep : Bool) (front : TokenKind → Bool) → ((name : ℕ) → front (kinds.Name name) ≡ true)
    → Law keep identifier_at front any
identifier_law keep front named = record {
  good = λ s ts. by_test s ts (is_identifier s (spelled_name (kind_at ts))) refl;
  ready = λ s at. record {
    more = kinds.Name (fresh s) ∷ [];
    tree = identifier_of at (fresh s);
    scopes = s;
    keeps = kept_refl keep s;
    begins = λ k h. named (fresh s);
    reads = λ k h. rw (free_names_no_type s (fresh s) (fresh_free s)) refl;
  };
}
  where
    by_test : (s : HeldScopes) (ts : List Lexeme) (b : Bool) → is_identifier s (spelled_name (kind_at ts)) ≡ b
        → Good keep identifier_at any s ts
    by_test s ts true is =
        good_as keep name_at identifier_at any s ts (λ k e. rw (kind_same k ts e, is) refl)
        (inl (λ x e. identifier_shrinks s ts x (rw is e))) (name_good keep any s ts)
    by_test s ts false is = refused_here keep identifier_at any s ts Unexpected (λ k e. rw (kind_same k ts e, is) refl)
