-- A report comes to one thing.
use Rattle.std.proofs.Common.{◌≡◌, ℕ, zero, suc, ◌+◌, ◌<◌, ◌≤◌, inl, inr, List, [], ◌∷◌, ◌++◌, length, take, drop, slice_get, Option, Some, None, All, refl, sym, ◌∙◌, ap, subst, arith, append_assoc, take-append-drop, eq-or-lt_of_le}
use Rattle.std.proofs.lemmas.List.Elements.{All-head, All-tail}
use Rattle.std.proofs.lemmas.Option.{slice_get_within}
use Rattle.std.proofs.lemmas.Bool.{cases_lt}
use Rattle.qual_base.proofs.Lists.{get_left}
use Rattle.lattice_core.specs.Order.{Order}
use Rattle.flow_graph.specs.declared.proof.BadStep.{BadStep}
use Rattle.flow_graph.specs.System.{System}
use Rattle.flow_graph.specs.PathProofs.{first_fault}
use Rattle.path_checker.specs.declared.lines.Line.{Line}
use Rattle.path_checker.specs.declared.lines.Line.TheVariants.{Rejected, Error, Sub, Path, Take, Through}
use Rattle.path_checker.specs.Lines.{lines_of}
use Rattle.path_checker.specs.Report.{Steps}
use Rattle.path_checker.specs.Grammar.{Written, by_constraint, by_sub_path, WrittenError, step_lines, sub_lines, error_lines, AreNamed, SubsAreNamed, ErrorsAreNamed, IsReport, BeginsReport, IsMisfit, NamesNothing}
use Rattle.path_checker.specs.declared.report_checks.judging.Checked.{Checked}
use Rattle.path_checker.specs.declared.report_checks.judging.Checked.TheVariants.{Hold, Bad}
use Rattle.path_checker.specs.declared.report_checks.judging.Code.{Code}
use Rattle.path_checker.specs.declared.report_checks.judging.Code.TheVariants.{K1, K2, Rule}
use Rattle.path_checker.specs.ReportChecks.Checks.{StepsHold, IsBad, ComesTo}

-- an item before a place is one of the first so many
get_of_front : {A : Type 0} → (xs : List A) (j k : ℕ) (x : A) → j < k → slice_get xs j ≡ Some x
    → slice_get (take k xs) j ≡ Some x
get_of_front [] j k x below is = absurd cc
get_of_front (y ∷ xs) j zero x below is = absurd (omega arith)
get_of_front (y ∷ xs) zero (suc k) x below is = is
get_of_front (y ∷ xs) (suc j) (suc k) x below is = get_of_front xs j k x (omega arith) is

-- a shorter front is the front of a longer one
front_of_front : {A : Type 0} → (xs : List A) (j k : ℕ) → j ≤ k → (mid : List A) × (take j xs ++ mid ≡ take k xs)
front_of_front xs zero k below = (take k xs, refl)
front_of_front xs (suc j) zero below = absurd (omega arith)
front_of_front [] (suc j) (suc k) below = ([], refl)
front_of_front (x ∷ xs) (suc j) (suc k) below =
    let deeper = front_of_front xs j k (omega arith) in
    (deeper.0, ap (λ ys. x ∷ ys) deeper.1)

module _ (edges : ℕ) where
  -- each step by a constraint has the number of one
  abbrev AllNamed : List Line → Type 0
  AllNamed lines = (k m : ℕ) → slice_get lines k ≡ Some (Take m) → m < edges

  named_line : (line : Line) (lines : List Line) → ((m : ℕ) → line ≡ Take m → m < edges) → AllNamed lines
      → AllNamed (line ∷ lines)
  named_line line lines here there zero m is = here m cc
  named_line line lines here there (suc k) m is = there k m is

  steps_named : (steps : List Written) (behind : List Line) → AreNamed edges steps → AllNamed behind
      → AllNamed (step_lines steps behind)
  steps_named [] behind named all = all
  steps_named (by_constraint n ∷ steps) behind named all =
      named_line (Take n) (step_lines steps behind) (λ m is. let same : n ≡ m = cc in omega (arith, same, named.0))
      (steps_named steps behind named.1 all)
  steps_named (by_sub_path n ∷ steps) behind named all =
      named_line (Through n) (step_lines steps behind) (λ m is. absurd cc) (steps_named steps behind named all)

  subs_named : (n : ℕ) (subs : List (List Written)) (behind : List Line) → SubsAreNamed edges subs → AllNamed behind
      → AllNamed (sub_lines n subs behind)
  subs_named n [] behind named all = all
  subs_named n (steps ∷ subs) behind named all =
      named_line (Sub n) (step_lines steps (sub_lines (n + 1) subs behind)) (λ m is. absurd cc)
      (steps_named steps (sub_lines (n + 1) subs behind) named.0 (subs_named (n + 1) subs behind named.1 all))

  errors_named : (errors : List WrittenError) → ErrorsAreNamed edges errors → AllNamed (error_lines errors)
  errors_named [] named = λ k m is. absurd cc
  errors_named (e ∷ errors) named =
      let main = step_lines e.main (error_lines errors) in
      named_line Error (sub_lines 1 e.subs (Path ∷ main)) (λ m is. absurd cc)
      (subs_named 1 e.subs (Path ∷ main) named.0
      (named_line Path main (λ m is. absurd cc)
      (steps_named e.main (error_lines errors) named.1 (errors_named errors named.2))))

  report_named : (lines : List Line) → IsReport edges lines → AllNamed lines
  report_named lines is =
      subst (λ (ls : List Line). AllNamed ls) (sym is.lines_are)
      (named_line Rejected (error_lines (is.first ∷ is.others)) (λ m same. absurd cc)
      (errors_named (is.first ∷ is.others) is.named))

  begun_named : (lines : List Line) → BeginsReport edges lines → AllNamed lines
  begun_named lines begun k m is = report_named (lines ++ begun.0) begun.1 k m (get_left lines begun.0 k (Take m) is)

  whole_begins : (lines : List Line) (k : ℕ) → IsReport edges lines → BeginsReport edges (take k lines)
  whole_begins lines k is =
      (drop k lines, subst (λ (ls : List Line). IsReport edges ls) (sym (take-append-drop k lines)) is)

  less_begins : (lines : List Line) (j k : ℕ) → j ≤ k → BeginsReport edges (take k lines)
      → BeginsReport edges (take j lines)
  less_begins lines j k below begun =
      let front = front_of_front lines j k below in
      let same : take k lines ++ begun.0 ≡ take j lines ++ (front.0 ++ begun.0) =
      ap (λ (ls : List Line). ls ++ begun.0) (sym front.1) ∙ append_assoc (take j lines) front.0 begun.0 in
      (front.0 ++ begun.0, subst (λ (ls : List Line). IsReport edges ls) same begun.1)

module _ (edges : ℕ) (lines : List Line) where
  fits_whole : (n : ℕ) → IsReport edges lines → IsMisfit edges lines n → ⊥
  fits_whole n is misfit =
      elim (eq-or-lt_of_le misfit.within) [
        | inl end ↦ misfit.unfinished end is
        | inr below ↦ misfit.misfit below edges (whole_begins edges lines (suc misfit.before) is)
      ]

  names_whole : (n : ℕ) → IsReport edges lines → NamesNothing edges lines n → ⊥
  names_whole n is nameless =
      let named = report_named edges lines is nameless.before nameless.constraint nameless.line_is in
      omega (arith, named, nameless.past)

  no_later_misfit : (n m : ℕ) (a : IsMisfit edges lines n) (b : IsMisfit edges lines m) → a.before < b.before → ⊥
  no_later_misfit n m a b below =
      a.misfit (omega (arith, below, b.within)) edges
      (less_begins edges lines (suc a.before) b.before (omega (arith, below)) b.begins)

  misfit_once : (n m : ℕ) → IsMisfit edges lines n → IsMisfit edges lines m → n ≡ m
  misfit_once n m a b =
      elim (cases_lt a.before b.before) [
        | inl below ↦ absurd (no_later_misfit n m a b below)
        | inr over ↦ elim (cases_lt b.before a.before) [
          | inl below ↦ absurd (no_later_misfit m n b a below)
          | inr same ↦ omega (arith, a.number, b.number, over, same)
        ]
      ]

  no_later_nameless : (n m : ℕ) (a : NamesNothing edges lines n) (b : NamesNothing edges lines m) → a.before < b.before
      → ⊥
  no_later_nameless n m a b below =
      let named = begun_named edges (take b.before lines) b.begins a.before a.constraint
      (get_of_front lines a.before b.before (Take a.constraint) below a.line_is) in
      omega (arith, named, a.past)

  nameless_once : (n m : ℕ) → NamesNothing edges lines n → NamesNothing edges lines m → n ≡ m
  nameless_once n m a b =
      elim (cases_lt a.before b.before) [
        | inl below ↦ absurd (no_later_nameless n m a b below)
        | inr over ↦ elim (cases_lt b.before a.before) [
          | inl below ↦ absurd (no_later_nameless m n b a below)
          | inr same ↦ omega (arith, a.number, b.number, over, same)
        ]
      ]

  not_both : (n m : ℕ) → IsMisfit edges lines n → NamesNothing edges lines m → ⊥
  not_both n m a b =
      elim (cases_lt b.before a.before) [
        | inl below ↦
            let named = begun_named edges (take a.before lines) a.begins b.before b.constraint
            (get_of_front lines b.before a.before (Take b.constraint) below b.line_is) in
            omega (arith, named, b.past)
        | inr over ↦
            let inside = slice_get_within lines b.before (Take b.constraint) b.line_is in
            a.misfit (omega (arith, over, inside)) (suc b.constraint)
            (less_begins (suc b.constraint) lines (suc a.before) (suc b.before) (omega (arith, over)) b.fits)
      ]

module _ (fault : Steps → Option BadStep) where
  all_at : (before : List Steps) (proof : Steps) (behind : List Steps)
      → All (λ p. fault p ≡ None) (before ++ proof ∷ behind) → fault proof ≡ None
  all_at [] proof behind all = All-head (λ p. fault p ≡ None) proof behind all
  all_at (p ∷ before) proof behind all =
      all_at before proof behind (All-tail (λ p. fault p ≡ None) p (before ++ proof ∷ behind) all)

  first_once : (one two : List Steps) (p q : Steps) (behind rest : List Steps) (bad other : BadStep)
      → All (λ p. fault p ≡ None) one → All (λ p. fault p ≡ None) two →
      fault p ≡ Some bad → fault q ≡ Some other → one ++ p ∷ behind ≡ two ++ q ∷ rest → bad ≡ other
  first_once [] [] p q behind rest bad other hold holds fails failing same =
      let here : p ≡ q = cc in let both : Some bad ≡ Some other = sym fails ∙ ap fault here ∙ failing in cc
  first_once [] (y ∷ two) p q behind rest bad other hold holds fails failing same =
      let here : p ≡ y = cc in
      let none : fault y ≡ None = All-head (λ p. fault p ≡ None) y two holds in
      let clash : Some bad ≡ None = sym fails ∙ ap fault here ∙ none in
      absurd cc
  first_once (x ∷ one) [] p q behind rest bad other hold holds fails failing same =
      let here : x ≡ q = cc in
      let none : fault x ≡ None = All-head (λ p. fault p ≡ None) x one hold in
      let clash : Some other ≡ None = sym failing ∙ ap fault (sym here) ∙ none in
      absurd cc
  first_once (x ∷ one) (y ∷ two) p q behind rest bad other hold holds fails failing same =
      first_once one two p q behind rest bad other (All-tail (λ p. fault p ≡ None) x one hold)
      (All-tail (λ p. fault p ≡ None) y two holds) fails failing cc

module _ (sys : System) (orders : List Order) (text : List ℕ) where
  abbrev fault_in : Steps → Option BadStep
  fault_in proof = first_fault sys orders proof.subs proof.main proof.end

  never_holds : (line : ℕ) (code : Code) → ComesTo sys orders text Hold → IsBad sys orders text line code → ⊥
  never_holds line K1 holds bad = fits_whole (length sys.constraints) (lines_of text) line holds.0 bad
  never_holds line K2 holds bad = names_whole (length sys.constraints) (lines_of text) line holds.0 bad
  never_holds line (Rule why) holds bad =
      let fails = bad.1 in
      let none : fault_in fails.proof ≡ None =
      all_at fault_in fails.before fails.proof fails.behind
      (subst (λ (ps : List Steps). All (StepsHold sys orders) ps) fails.parts holds.1) in
      let clash : Some (record { line = line; why = why }) ≡ None = sym fails.fails ∙ none in
      absurd cc

  bad_once : (line other : ℕ) (code tag : Code) → IsBad sys orders text line code → IsBad sys orders text other tag
      → Bad line code ≡ Bad other tag
  bad_once line other K1 K1 one two =
      ap (λ n. Bad n K1) (misfit_once (length sys.constraints) (lines_of text) line other one two)
  bad_once line other K1 K2 one two = absurd (not_both (length sys.constraints) (lines_of text) line other one two)
  bad_once line other K1 (Rule why) one two =
      absurd (fits_whole (length sys.constraints) (lines_of text) line two.0 one)
  bad_once line other K2 K1 one two = absurd (not_both (length sys.constraints) (lines_of text) other line two one)
  bad_once line other K2 K2 one two =
      ap (λ n. Bad n K2) (nameless_once (length sys.constraints) (lines_of text) line other one two)
  bad_once line other K2 (Rule why) one two =
      absurd (names_whole (length sys.constraints) (lines_of text) line two.0 one)
  bad_once line other (Rule why) K1 one two =
      absurd (fits_whole (length sys.constraints) (lines_of text) other one.0 two)
  bad_once line other (Rule why) K2 one two =
      absurd (names_whole (length sys.constraints) (lines_of text) other one.0 two)
  bad_once line other (Rule why) (Rule reason) one two =
      let a = one.1 in
      let b = two.1 in
      let same : record { line = line; why = why } ≡ record { line = other; why = reason } =
      first_once fault_in a.before b.before a.proof b.proof a.behind b.behind (record { line = line; why = why })
      (record { line = other; why = reason }) a.hold b.hold a.fails b.fails (sym a.parts ∙ b.parts) in
      ap (λ (bad : BadStep). Bad bad.line (Rule bad.why)) same

  pub comes_to_one : (one two : Checked) → ComesTo sys orders text one → ComesTo sys orders text two → one ≡ two
  comes_to_one Hold Hold a b = refl
  comes_to_one Hold (Bad line code) a b = absurd (never_holds line code a b)
  comes_to_one (Bad line code) Hold a b = absurd (never_holds line code b a)
  comes_to_one (Bad line code) (Bad other tag) a b = bad_once line other code tag a b
