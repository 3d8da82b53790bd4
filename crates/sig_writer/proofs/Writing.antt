-- Words that are written one behind the other.
use Rattle.std.proofs.Common.{◌≡◌, ℕ, List, [], ◌∷◌, ◌++◌, codes, refl, sym, ◌∙◌, ap, append_assoc, append-nil}
use Rattle.sig_writer.specs.declared.types.Space.TheVariants.{Before}
use Rattle.sig_writer.specs.Signatures.{each_behind}
use Rattle.sig_writer.specs.Typing.{each_in}

pub list_assoc : {A : Type 0} (xs ys zs : List A) → (xs ++ ys) ++ zs ≡ xs ++ (ys ++ zs)
list_assoc xs ys zs = append_assoc xs ys zs

-- words with a space before each
pub words_behind : (words : List (List ℕ)) → each_in Before words ≡ each_behind words
words_behind [] = refl
words_behind (word ∷ words) =
    ap (λ (t : List ℕ). t ++ each_in Before words) (append-nil (codes " " ++ word))
    ∙ ap (λ (t : List ℕ). codes " " ++ word ++ t) (words_behind words)

-- three texts, one behind the other
pub three_behind : (a : List ℕ) {b c d : List ℕ} (one two three : List ℕ) → b ≡ a ++ one → c ≡ b ++ two →
    d ≡ c ++ three → d ≡ a ++ (one ++ two ++ three)
three_behind a one two three first second third =
    third ∙ ap (λ (t : List ℕ). t ++ three) (second ∙ ap (λ (t : List ℕ). t ++ two) first)
    ∙ list_assoc (a ++ one) two three ∙ list_assoc a one (two ++ three)
    ∙ ap (λ (t : List ℕ). a ++ t) (sym (list_assoc one two three))
