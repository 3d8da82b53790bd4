-- Index words up to a token, and the first fault against the rules.
use Rattle.std.specs.Prelude.{◌≡◌, ℕ, ◌<◌, ◌↔◌, nat_lt, Bool, true, false, All, Contains, List, length, slice_index_or, Option, None, Some, if◌then◌else◌}
use Rattle.c_lexer.specs.Tokens.{Lexed}
use Rattle.c_tree.specs.Unit.{Item}
use Rattle.index_words.specs.Marks.{IndexMark, numbers_at}
use Rattle.cq_prelude.specs.Rules.{IsFirst, IsIndex, Says, bad_index, has_body}
use Rattle.cq_prelude.specs.declared.rules.RuleFault.{RuleFault}
use Rattle.cq_prelude.specs.declared.rules.RuleFault.TheVariants.{BadIndex, HasBody, NoMemory}

-- whether the flag of a token is set
abbrev pub is_marked : List Bool → ℕ → Bool
is_marked flags token = slice_index_or flags token false

-- for each of so many tokens, whether it is among some
pub record AreFlags (count : ℕ) (tokens : List ℕ) (flags : List Bool) : Type 0 where
  pub count_is : length flags ≡ count
  pub tell : (at : ℕ) → at < count → (is_marked flags at ≡ true) ↔ Contains tokens at

-- the index words before a token are right, where flags say which stand where they may, and these are their marks
pub record AreMarkedTo (lexed : Lexed) (flags : List Bool) (end : ℕ) (marks : List IndexMark) : Type 0 where
  pub before : All (λ it. it.token < end) marks
  pub placed : (token : ℕ) → token < end → IsIndex lexed token → is_marked flags token ≡ true
  pub said : (token : ℕ) → token < end → IsIndex lexed token → Says lexed token (numbers_at marks token)
  pub only : (token n : ℕ) → Contains (numbers_at marks token) n → IsIndex lexed token

-- an index word that does not stand where it may, or says no numbers
pub record IsBad (lexed : Lexed) (flags : List Bool) (token : ℕ) : Type 0 where
  pub index : IsIndex lexed token
  pub wrong : is_marked flags token ≡ true → (set : List ℕ) → Says lexed token set → ⊥

-- the first such word; want of memory may come anywhere
abbrev pub IsFirstBad : Lexed → List Bool → RuleFault → Type 0
IsFirstBad lexed flags (HasBody token) = ⊥
IsFirstBad lexed flags (BadIndex token) =
    (marks : List IndexMark) × AreMarkedTo lexed flags token marks × IsBad lexed flags token
IsFirstBad lexed flags NoMemory = Unit {0}

-- the first of a body that may be there and a bad index word
abbrev pub first_fault : Option ℕ → ℕ → RuleFault
first_fault None token = BadIndex token
first_fault (Some opening) token = if nat_lt opening token then HasBody opening else BadIndex token

-- the first of a body that may be there and a fault of index words
abbrev pub with_body : Option ℕ → RuleFault → RuleFault
with_body body (HasBody token) = HasBody token
with_body body (BadIndex token) = first_fault body token
with_body body NoMemory = NoMemory

-- the first token at which a rule fails; want of memory may come anywhere
abbrev pub IsRuleFault : Lexed → List Item → RuleFault → Type 0
IsRuleFault lexed items (HasBody token) = IsFirst lexed items has_body token
IsRuleFault lexed items (BadIndex token) = IsFirst lexed items bad_index token
IsRuleFault lexed items NoMemory = Unit {0}
