use Rattle.std.proofs.Common.{◌≡◌, ℕ, ◌==◌, List, ◌∷◌, Option, Some, None, option_map, refl}
use Rattle.std.specs.List.{slice_split}
use Rattle.path_checker.specs.declared.lines.Line.TheVariants.{Take}
use Rattle.path_checker.specs.Lines.{capped, number_of, first_word, take_line}
use Rattle.path_checker.proofs.Splits.{split_parts}
use Rattle.path_checker.proofs.lines.constraint_step.Goals as goal

first_word_is : (word rest : List ℕ) → first_word (word ∷ slice_split (λ b. b == 32) rest) ≡ take_line (number_of word)
first_word_is word rest = rw (split_parts (λ b. b == 32) rest).2 refl

take_line_is : (n : ℕ) (o : Option ℕ) → Some n ≡ option_map capped o → Take n ≡ take_line o
take_line_is n (Some m) e = cc
take_line_is n None e = absurd cc

pub returns-in-Some-number_of : goal.returns-in-Some-number_of
returns-in-Some-number_of c =
    rw (c.in-Some.ensures.parts, first_word_is) (take_line_is _ _ c.in-Some-number_of.ensures)
