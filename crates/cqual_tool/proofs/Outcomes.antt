-- Answers and their outcomes.
use Rattle.std.proofs.Common.{◌≡◌, ℕ, List, Some, None, Ok, Err, IfOk, sym, ◌∙◌, ap, subst}
use Rattle.std.specs.declared.option.Option.{Option}
use Rattle.std.specs.declared.result.Result.{Result}
use Rattle.std.specs.Option.{option_map}
use Rattle.cqual_tool.specs.declared.status.Status.{Status}
use Rattle.cqual_words.specs.Words.{Task, meaning_of}

-- an outcome at equal statuses and texts
pub at_equal : (Is : Status → List ℕ → Type 0) (one other : Status) (text same : List ℕ) → one ≡ other → text ≡ same
    → Is other same → Is one text
at_equal Is one other text same status words is =
    let At : Status → Type 0 = λ s. Is s text in
    let With : List ℕ → Type 0 = λ t. Is other t in
    subst At (sym status) (subst With (sym words) is)

-- the meaning of words, as the code holds it
pub meant : {A : Type 0} (words : List (List ℕ)) (names : A → Task) (found : Option A) (named : A)
    → option_map names found ≡ meaning_of words → found ≡ Some named →
    meaning_of words ≡ Some (names named)
meant words names found named is some = sym is ∙ ap (option_map names) some

pub unmeant : {A : Type 0} (words : List (List ℕ)) (names : A → Task) (found : Option A)
    → option_map names found ≡ meaning_of words → found ≡ None → meaning_of words ≡ None
unmeant words names found is none = sym is ∙ ap (option_map names) none

-- two things that hold of an answer
pub both_ok : {T E : Type 0} {P Q R : T → Type 0} (r : Result T E) → IfOk r P → IfOk r Q → ((x : T) → P x → Q x → R x)
    → IfOk r R
both_ok (Ok x) p q f = f x p q
both_ok (Err e) p q f = tt
