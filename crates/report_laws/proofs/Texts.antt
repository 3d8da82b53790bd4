-- The lines of the texts of path proofs.
use Rattle.std.proofs.Common.{◌≡◌, ℕ, ◌+◌, ◌-◌, ◌^◌, ◌<◌, ◌≤◌, List, [], ◌∷◌, ◌++◌, length, map, slice_get, Option, Some, refl, sym, ◌∙◌, ap, arith, codes, decimal, append_assoc, length-append}
use Rattle.std.proofs.lemmas.Option.{slice_get_within}
use Rattle.flow_graph.specs.declared.constraint.Constraint.{Constraint}
use Rattle.flow_graph.specs.declared.proof.PathStep.{PathStep}
use Rattle.flow_graph.specs.declared.proof.PathStep.TheVariants.{Take as TakeStep, Sub as SubStep}
use Rattle.flow_graph.specs.System.{System, most_constraints}
use Rattle.lattice_core.specs.View.{orders_of}
use Rattle.path_checker.specs.declared.lines.Line.{Line}
use Rattle.path_checker.specs.declared.lines.Line.TheVariants.{Rejected, Error, Sub, Path, Take, Through}
use Rattle.path_checker.specs.Lines.{line_kind, lines_of}
use Rattle.path_checker.specs.Grammar.{WrittenError, step_lines, sub_lines, error_lines}
use Rattle.annotate.specs.Texts.{Scene, line, place_text, elem_text, link_text, constraint_text, steps_text, subs_text, error_line}
use Rattle.annotate.specs.Reports.{IsError, IsErrorOf, NotExceeded, Exceeded, Errors, NoConstraint, NextError}
use Rattle.report_laws.specs.Scenes.{HasNoFeeds}
use Rattle.report_laws.specs.Laws.{written, error_of, errors_of}
use Rattle.report_laws.proofs.Cutting.{line_first}
use Rattle.report_laws.proofs.LineKinds.{error_kind, path_kind, sub_kind, through_kind, take_kind, rejected_kind}
use Rattle.report_laws.proofs.OneLine.{Free, then_free, number_free, place_free, elem_free, link_free}
use Rattle.report_laws.proofs.Known.{AllKnown, SubsKnown, proof_known}

-- words one behind the other, in either way of joining them
words_of : (d p l : List ℕ) → d ++ 32 ∷ [] ++ p ++ 32 ∷ [] ++ l ≡ d ++ 32 ∷ (p ++ 32 ∷ l)
words_of d p l =
    append_assoc (d ++ 32 ∷ [] ++ p) (32 ∷ []) l ∙ append_assoc (d ++ 32 ∷ []) p (32 ∷ l)
    ∙ append_assoc d (32 ∷ []) (p ++ 32 ∷ l)

three_parts : (a b c rest : List ℕ) → a ++ b ++ c ++ rest ≡ a ++ (b ++ (c ++ rest))
three_parts a b c rest = append_assoc (a ++ b) c rest ∙ append_assoc a b (c ++ rest)

four_parts : (e s p m rest : List ℕ) → e ++ (s ++ p ++ m) ++ rest ≡ e ++ (s ++ (p ++ (m ++ rest)))
four_parts e s p m rest = append_assoc e (s ++ p ++ m) rest ∙ ap (λ (t : List ℕ). e ++ t) (three_parts s p m rest)

-- the lines of errors, and those behind them
abbrev pub errors_then : List WrittenError → List Line → List Line
errors_then [] behind = behind
errors_then (e ∷ errors) behind = Error ∷ sub_lines 1 e.subs (Path ∷ step_lines e.main (errors_then errors behind))

-- the lines of joined errors are those of the first and then of the second
then_append : (one two : List WrittenError) (behind : List Line)
    → errors_then (one ++ two) behind ≡ errors_then one (errors_then two behind)
then_append [] two behind = refl
then_append (e ∷ one) two behind =
    ap (λ (ls : List Line). Error ∷ sub_lines 1 e.subs (Path ∷ step_lines e.main ls)) (then_append one two behind)

-- errors with nothing behind are their lines
pub then_nothing : (errors : List WrittenError) → errors_then errors [] ≡ error_lines errors
then_nothing [] = refl
then_nothing (e ∷ errors) =
    ap (λ (ls : List Line). Error ∷ sub_lines 1 e.subs (Path ∷ step_lines e.main ls)) (then_nothing errors)

module _ (scene : Scene) (sys : System) (one : HasNoFeeds scene) (few : length sys.constraints ≤ most_constraints) where
  take_line : (edge : ℕ) (c : Constraint) (rest : List ℕ) → edge < 2 ^ 32 - 1
      → lines_of (constraint_text scene edge (Some c) ++ rest) ≡ Take edge ∷ lines_of rest
  take_line edge c rest small =
      let place = place_text scene c.span.unit c.span.from in
      let link = link_text scene c.link in
      let front = codes "  " ++ decimal edge ++ codes " " in
      let front_free : Free front = then_free (codes "  " ++ decimal edge) (codes " ")
      (then_free (codes "  ") (decimal edge) refl (number_free edge)) refl in
      let free : Free (front ++ place ++ codes " " ++ link) =
      then_free (front ++ place ++ codes " ") link (then_free (front ++ place) (codes " ")
      (then_free front place front_free (place_free scene one c.span.unit c.span.from)) refl)
      (link_free scene one c.link) in
      let kind : line_kind (front ++ place ++ codes " " ++ link) ≡ Take edge =
      ap (λ (t : List ℕ). line_kind (codes "  " ++ t)) (words_of (decimal edge) place link)
      ∙ take_kind edge (place ++ 32 ∷ link) small in
      line_first (front ++ place ++ codes " " ++ link) rest free ∙ ap (λ (l : Line). l ∷ lines_of rest) kind

  through_line : (number : ℕ) (rest : List ℕ) → number < 2 ^ 32 - 1
      → lines_of (line (codes "  sub " ++ decimal number) ++ rest) ≡ Through number ∷ lines_of rest
  through_line number rest small =
      line_first (codes "  sub " ++ decimal number) rest
      (then_free (codes "  sub ") (decimal number) refl (number_free number))
      ∙ ap (λ (l : Line). l ∷ lines_of rest) (through_kind number small)

  heading : (number : ℕ) (rest : List ℕ) → number < 2 ^ 32 - 1
      → lines_of (line (codes "sub " ++ decimal number) ++ rest) ≡ Sub number ∷ lines_of rest
  heading number rest small =
      line_first (codes "sub " ++ decimal number) rest
      (then_free (codes "sub ") (decimal number) refl (number_free number))
      ∙ ap (λ (l : Line). l ∷ lines_of rest) (sub_kind number small)

  steps_lines : (steps : List PathStep) (rest : List ℕ) → AllKnown sys steps
      → lines_of (steps_text scene sys steps ++ rest) ≡ step_lines (map written steps) (lines_of rest)
  steps_lines [] rest known = refl
  steps_lines (TakeStep edge l ∷ steps) rest known =
      let c = known.0.0 in
      let there = known.0.1 in
      let behind = steps_text scene sys steps in
      let within = slice_get_within sys.constraints edge c there in
      ap lines_of (append_assoc (constraint_text scene edge (slice_get sys.constraints edge)) behind rest)
      ∙ ap (λ (o : Option Constraint). lines_of (constraint_text scene edge o ++ (behind ++ rest))) there
      ∙ take_line edge c (behind ++ rest) (omega (arith, within, few))
      ∙ ap (λ (ls : List Line). Take edge ∷ ls) (steps_lines steps rest known.1)
  steps_lines (SubStep number l ∷ steps) rest known =
      let behind = steps_text scene sys steps in
      ap lines_of (append_assoc (line (codes "  sub " ++ decimal number)) behind rest)
      ∙ through_line number (behind ++ rest) known.0
      ∙ ap (λ (ls : List Line). Through number ∷ ls) (steps_lines steps rest known.1)

  subs_lines : (k : ℕ) (subs : List (List PathStep)) (rest : List ℕ) → SubsKnown sys subs
      → k + length subs ≤ 2 ^ 32 - 1 →
      lines_of (subs_text scene sys k subs ++ rest) ≡ sub_lines k (map (map written) subs) (lines_of rest)
  subs_lines k [] rest known small = refl
  subs_lines k (steps ∷ subs) rest known small =
      let here = steps_text scene sys steps in
      let more = subs_text scene sys (k + 1) subs in
      ap lines_of (three_parts (line (codes "sub " ++ decimal k)) here more rest)
      ∙ heading k (here ++ (more ++ rest)) (omega (arith, small))
      ∙ ap (λ (ls : List Line). Sub k ∷ ls)
      (steps_lines steps (more ++ rest) known.0
      ∙ ap (step_lines (map written steps)) (subs_lines (k + 1) subs rest known.1 (omega (arith, small))))

  subs_long : (k : ℕ) (subs : List (List PathStep)) → length subs ≤ length (subs_text scene sys k subs)
  subs_long k [] = omega arith
  subs_long k (steps ∷ subs) =
      let word = codes "sub " ++ decimal k in
      let here = steps_text scene sys steps in
      let more = subs_text scene sys (k + 1) subs in
      let deeper = subs_long (k + 1) subs in
      omega (
        arith,
        deeper,
        length-append (line word ++ here) more,
        length-append (line word) here,
        length-append word (10 ∷ []),
      )

  -- the text above a path proof
  head_free : (lattice elem bound unit token : ℕ)
      → Free (codes "error " ++ elem_text scene lattice elem ++ codes " exceeds " ++ elem_text scene lattice bound
      ++ codes " at " ++ place_text scene unit token)
  head_free lattice elem bound unit token =
      let a = elem_text scene lattice elem in
      let b = elem_text scene lattice bound in
      let p = place_text scene unit token in
      then_free (codes "error " ++ a ++ codes " exceeds " ++ b ++ codes " at ") p
      (then_free (codes "error " ++ a ++ codes " exceeds " ++ b) (codes " at ")
      (then_free (codes "error " ++ a ++ codes " exceeds ") b (then_free (codes "error " ++ a) (codes " exceeds ")
      (then_free (codes "error ") a refl (elem_free scene one lattice elem)) refl)
      (elem_free scene one lattice bound)) refl)
      (place_free scene one unit token)

  head_line : (lattice elem bound unit token : ℕ) (rest : List ℕ) →
      lines_of (line (codes "error " ++ elem_text scene lattice elem ++ codes " exceeds "
      ++ elem_text scene lattice bound ++ codes " at " ++ place_text scene unit token) ++ rest) ≡ Error ∷ lines_of rest
  head_line lattice elem bound unit token rest =
      let a = elem_text scene lattice elem in
      let b = elem_text scene lattice bound in
      let p = place_text scene unit token in
      line_first (codes "error " ++ a ++ codes " exceeds " ++ b ++ codes " at " ++ p) rest
      (head_free lattice elem bound unit token)
      ∙ ap (λ (l : Line). l ∷ lines_of rest) (error_kind (a ++ codes " exceeds " ++ b ++ codes " at " ++ p))

  path_line : (rest : List ℕ) → lines_of (line (codes "path") ++ rest) ≡ Path ∷ lines_of rest
  path_line rest = line_first (codes "path") rest refl ∙ ap (λ (l : Line). l ∷ lines_of rest) path_kind

  pub rejected_line : (rest : List ℕ) → lines_of (line (codes "rejected") ++ rest) ≡ Rejected ∷ lines_of rest
  rejected_line rest = line_first (codes "rejected") rest refl ∙ ap (λ (l : Line). l ∷ lines_of rest) rejected_kind

  -- the sub-paths of an error are fewer than the bytes of its text
  subs_few : (number : ℕ) (text : List ℕ) (is : IsError scene sys number text) → length text < 2 ^ 32 - 1
      → 1 + length is.subs ≤ 2 ^ 32 - 1
  subs_few number text is short =
      let e = error_line scene is.lattice is.elem is.limit is.bound.constraint.span in
      let s = subs_text scene sys 1 is.subs in
      let p = line (codes "path") in
      let m = steps_text scene sys is.main in
      let long = subs_long 1 is.subs in
      let whole : length text ≡ length (e ++ (s ++ p ++ m)) = ap length is.spelled in
      omega (arith, short, long, whole, length-append e (s ++ p ++ m), length-append (s ++ p) m, length-append s p)

  pub error_known : (number : ℕ) (text : List ℕ) (is : IsError scene sys number text) → length text < 2 ^ 32 - 1
      → SubsKnown sys is.subs × AllKnown sys is.main
  error_known number text is short =
      let small = subs_few number text is short in
      proof_known sys (orders_of scene.lattices) is.subs is.main is.end (omega (arith, small)) is.holds

  error_first : (number : ℕ) (text : List ℕ) (is : IsError scene sys number text) (rest : List ℕ)
      → length text < 2 ^ 32 - 1 →
      lines_of (text ++ rest) ≡ Error
      ∷ sub_lines 1 (map (map written) is.subs) (Path ∷ step_lines (map written is.main) (lines_of rest))
  error_first number text is rest short =
      let span = is.bound.constraint.span in
      let e = error_line scene is.lattice is.elem is.limit span in
      let s = subs_text scene sys 1 is.subs in
      let p = line (codes "path") in
      let m = steps_text scene sys is.main in
      let known = error_known number text is short in
      ap (λ (t : List ℕ). lines_of (t ++ rest)) is.spelled
      ∙ ap lines_of (four_parts e s p m rest)
      ∙ head_line is.lattice is.elem is.limit span.unit span.from (s ++ (p ++ (m ++ rest)))
      ∙ ap (λ (ls : List Line). Error ∷ ls)
      (subs_lines 1 is.subs (p ++ (m ++ rest)) known.0 (subs_few number text is short)
      ∙ ap (sub_lines 1 (map (map written) is.subs))
      (path_line (m ++ rest) ∙ ap (λ (ls : List Line). Path ∷ ls) (steps_lines is.main rest known.1)))

  one_first : (number : ℕ) (text : List ℕ) (is : IsErrorOf scene sys number text) (rest : List ℕ)
      → length text < 2 ^ 32 - 1 → lines_of (text ++ rest) ≡ errors_then (error_of is) (lines_of rest)
  one_first number text (NotExceeded kept) rest short = refl
  one_first number text (Exceeded error over is) rest short = error_first number error is rest short

  pub errors_first : (number : ℕ) (text : List ℕ) (listed : Errors scene sys number text) (rest : List ℕ)
      → length text < 2 ^ 32 - 1 → lines_of (text ++ rest) ≡ errors_then (errors_of listed) (lines_of rest)
  errors_first number text NoConstraint rest short = refl
  errors_first _ _ (NextError number text error before is) rest short =
      let long = length-append text error in
      ap lines_of (append_assoc text error rest)
      ∙ errors_first number text before (error ++ rest) (omega (arith, short, long))
      ∙ ap (errors_then (errors_of before)) (one_first number error is rest (omega (arith, short, long)))
      ∙ sym (then_append (errors_of before) (error_of is) (lines_of rest))
