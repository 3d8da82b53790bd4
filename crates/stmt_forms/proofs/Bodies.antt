-- The items of a block are read in one list behind the declarations of labels.
use Rattle.std.specs.Prelude.{not}
use Rattle.std.proofs.Common.{◌≡◌, ℕ, zero, suc, ◌-◌, Bool, true, false, if◌then◌else◌, List, [], ◌∷◌, ◌++◌, length, Some, None, Ok, Err, refl, sym, ◌∙◌, ap, append_assoc}
use Rattle.std.proofs.lemmas.List.{append-nil}
use Rattle.c_words.specs.declared.kinds.TokenKind.{TokenKind}
use Rattle.c_tree.specs.Tree.{BlockItem}
use Rattle.c_tree.specs.declared.lexeme.Lexeme.{Lexeme}
use Rattle.c_units.specs.HeldScopes.{HeldScopes}
use Rattle.c_reading.specs.Reading.{Found, Read, Reader, Turn, ◌>>=◌, and_then, ends, kind_at, take_one, token_at, turns, run, repeated, repeated_turn}
use Rattle.c_reading.specs.Tokens.{is_close_brace}
use Rattle.c_reading.specs.Parts.{Block, block_items_from}
use Rattle.c_reading.specs.Knot.{knot}
use Rattle.c_reading.specs.Stating.{block_body, block_item_with}
use Rattle.stmt_forms.specs.InBlocks.{body_at, items_at, item_turn, labels_at, more_items_at}

module _ {T : Type 0} (turn : Turn (List T)) (known : List T) where
  abbrev behind_known : Found (List T) → Found (List T)
  behind_known x = record { tree = known ++ x.tree; scopes = x.scopes; rest = x.rest }

  -- one turn of a row, by its test and by what its item's reader answers, and the turns behind it
  abbrev one_turn : Bool → Read T → ℕ → List T → Reader (List T)
  one_turn test read n xs s ts =
      elim (if test then Some (read >>= λ x. ends (xs ++ x.tree ∷ []) x.scopes x.rest) else None)
      [ None ↦ ends xs s ts | Some read ↦ read >>= λ x. turns turn n x.tree x.scopes x.rest ]

  -- behind known items a turn does what it does from none on, where the turns behind it do
  one_behind : (n : ℕ)
      → ((xs : List T) (s : HeldScopes) (ts : List Lexeme)
      → turns turn n (known ++ xs) s ts ≡ and_then (turns turn n xs s ts) (λ x. Ok (behind_known x))) →
      (test : Bool) (read : Read T) (xs : List T) (s : HeldScopes) (ts : List Lexeme) →
      one_turn test read n (known ++ xs) s ts ≡ and_then (one_turn test read n xs s ts) (λ x. Ok (behind_known x))
  unfolding and_then
  one_behind n same false read xs s ts = refl
  one_behind n same true (Err e) xs s ts = refl
  one_behind n same true (Ok x) xs s ts =
      ap (λ ys. turns turn n ys x.scopes x.rest) (append_assoc known xs (x.tree ∷ []))
      ∙ same (xs ++ x.tree ∷ []) x.scopes x.rest

module _ {T : Type 0} (begins : TokenKind → Bool) (read : Reader T) (known : List T) where
  turns_behind : (n : ℕ) (xs : List T) (s : HeldScopes) (ts : List Lexeme) →
      turns (repeated_turn begins read) n (known ++ xs) s ts
      ≡ and_then (turns (repeated_turn begins read) n xs s ts)
      (λ x. Ok (behind_known (repeated_turn begins read) known x))
  unfolding turns and_then
  turns_behind zero xs s ts = refl
  turns_behind (suc n) xs s ts =
      one_behind (repeated_turn begins read) known n (turns_behind n) (begins (kind_at ts)) (read s ts) xs s ts

-- a row behind known items is read as the row from none on, and these stand before it
row_behind : {T A : Type 0} (begins : TokenKind → Bool) (read : Reader T) (known : List T) (then_so : List T → Reader A)
    (s : HeldScopes) (ts : List Lexeme) →
    (repeated begins read s ts >>= λ x. then_so (known ++ x.tree) x.scopes x.rest)
    ≡ (run (repeated_turn begins read) known s ts >>= λ x. then_so x.tree x.scopes x.rest)
unfolding repeated run and_then
row_behind {T} {A} begins read known then_so s ts =
    sym (ap (λ r. and_then r (λ x. then_so x.tree x.scopes x.rest))
    (ap (λ ys. turns (repeated_turn begins read) (suc (length ts)) ys s ts) (sym (append-nil known))
    ∙ turns_behind begins read known (suc (length ts)) [] s ts)
    ∙ through (turns (repeated_turn begins read) (suc (length ts)) [] s ts))
  where
    through : (r : Read (List T)) →
        and_then (and_then r (λ x. Ok (behind_known (repeated_turn begins read) known x)))
        (λ x. then_so x.tree x.scopes x.rest)
        ≡ and_then r (λ x. then_so (known ++ x.tree) x.scopes x.rest)
    through (Ok x) = refl
    through (Err e) = refl

-- a block with these items, behind its opening brace
abbrev closed_with : ℕ → List BlockItem → Reader Block
closed_with opening items s ts =
    token_at is_close_brace s ts >>= λ closing. ends
    (record { opening = opening; items = block_items_from items; closing = closing.tree }) closing.scopes closing.rest

behind_labels : (depth room opening : ℕ) (r : Read (List BlockItem)) →
    (r >>= λ labels. repeated (λ kind. not (is_close_brace kind)) (block_item_with (knot depth) room) labels.scopes
    labels.rest >>= λ items. closed_with opening (labels.tree ++ items.tree) items.scopes items.rest)
    ≡ ((r >>= λ labels. more_items_at depth labels.tree room labels.scopes labels.rest) >>= λ items.
    closed_with opening items.tree items.scopes items.rest)
unfolding and_then
behind_labels depth room opening (Err e) = refl
behind_labels depth room opening (Ok labels) =
    row_behind (λ kind. not (is_close_brace kind)) (block_item_with (knot depth) room) labels.tree
    (closed_with opening) labels.scopes labels.rest

-- the body of a block
pub body_is : (depth room : ℕ) (s : HeldScopes) (ts : List Lexeme)
    → block_body (knot depth) room s ts ≡ body_at depth room s ts
unfolding block_body and_then
body_is depth room s [] = refl
body_is depth room s (t ∷ ts) = behind_labels depth (room - 1) t.at (labels_at depth (room - 1) s ts)
