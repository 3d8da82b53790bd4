-- What a text begins with.
use Rattle.std.specs.Prelude.{◌≡◌, ℕ, ◌<◌, ◌≤◌, ◌==◌, List, ◌∷◌, ◌++◌, length, Option, Some, All}
use Rattle.std.specs.List.{slice_split}
use Rattle.certificate_reader.specs.declared.lines.Line.{Line}
use Rattle.certificate_reader.specs.Lines.{line_kind, words}

-- The text begins with a word that is read as a number, and this is what stands behind it. The word has no space and no
-- line feed:
-- none of its bytes is below the digit 0.
pub record BeginsWith (read : List ℕ → Option ℕ) (text : List ℕ) (n : ℕ) (rest : List ℕ) : Type 0 where
  pub word : List ℕ
  pub parts : text ≡ word ++ rest
  pub read_is : read word ≡ Some n
  pub bare : All (λ b. 48 ≤ b) word

-- the same with a byte that ends the word, and what stands behind that
pub record EndsAt (read : List ℕ → Option ℕ) (end : ℕ) (text : List ℕ) (n : ℕ) (rest : List ℕ) : Type 0 where
  pub word : List ℕ
  pub parts : text ≡ word ++ end ∷ rest
  pub read_is : read word ≡ Some n
  pub bare : All (λ b. 48 ≤ b) word

-- the text up to its first line feed is what its words say
pub record BeginsWords (kind_of : List (List ℕ) → Line) (text : List ℕ) (kind : Line) (rest : List ℕ) : Type 0 where
  pub part : List ℕ
  pub cut : slice_split (λ b. b == 10) text ≡ part ∷ slice_split (λ b. b == 10) rest
  pub kind_is : kind ≡ kind_of (words part)

-- the text begins with a line
pub record BeginsLine (text : List ℕ) (kind : Line) (rest : List ℕ) : Type 0 where
  pub part : List ℕ
  pub cut : slice_split (λ b. b == 10) text ≡ part ∷ slice_split (λ b. b == 10) rest
  pub kind_is : kind ≡ line_kind part
  pub shorter : length rest < length text
