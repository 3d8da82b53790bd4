-- The lines of written errors are read as these errors.
use Rattle.std.proofs.Common.{◌≡◌, ℕ, ◌+◌, List, [], ◌∷◌, map, refl, ap, ap₂}
use Rattle.path_checker.specs.declared.lines.Line.{Line}
use Rattle.path_checker.specs.declared.lines.Line.TheVariants.{Path, Take, Through}
use Rattle.path_checker.specs.Report.{steps_at, subs_at, main_at, proofs_at}
use Rattle.path_checker.specs.Grammar.{Written, by_constraint, by_sub_path, WrittenError, step_lines, sub_lines, error_lines}
use Rattle.report_laws.specs.Laws.{written, written_proof, ErrorsReadBack}

-- no step stands at the head of lines
abbrev NoStep : List Line → Type 0
NoStep lines = (n : ℕ) → steps_at n lines ≡ []

-- the lines of steps, before what is none, are read as these steps
steps_read : (steps : List Written) (behind : List Line) → NoStep behind → (n : ℕ)
    → map written (steps_at n (step_lines steps behind)) ≡ steps
steps_read [] behind none n = ap (map written) (none n)
steps_read (by_constraint m ∷ steps) behind none n =
    ap (λ (ws : List Written). by_constraint m ∷ ws) (steps_read steps behind none (n + 1))
steps_read (by_sub_path m ∷ steps) behind none n =
    ap (λ (ws : List Written). by_sub_path m ∷ ws) (steps_read steps behind none (n + 1))

module _ {A : Type 0} (behind : List Line) (read : ℕ → List Line → A) (want : A) where
  -- what steps do not change is read behind them
  behind_steps : ((n m : ℕ) (lines : List Line) → read n (Take m ∷ lines) ≡ read (n + 1) lines)
      → ((n m : ℕ) (lines : List Line) → read n (Through m ∷ lines) ≡ read (n + 1) lines) →
      ((n : ℕ) → read n behind ≡ want) → (steps : List Written) (n : ℕ) → read n (step_lines steps behind) ≡ want
  behind_steps takes goes is [] n = is n
  behind_steps takes goes is (by_constraint m ∷ steps) n =
      rw (takes n m (step_lines steps behind)) (behind_steps takes goes is steps (n + 1))
  behind_steps takes goes is (by_sub_path m ∷ steps) n =
      rw (goes n m (step_lines steps behind)) (behind_steps takes goes is steps (n + 1))

no_step : (k : ℕ) (subs : List (List Written)) (main : List Line) → NoStep (sub_lines k subs (Path ∷ main))
no_step k [] main n = refl
no_step k (steps ∷ subs) main n = refl

-- the lines of sub-paths, before the line `path`, are read as these sub-paths
subs_read : (k : ℕ) (subs : List (List Written)) (main : List Line) (n : ℕ)
    → map (map written) (subs_at n (sub_lines k subs (Path ∷ main))) ≡ subs
subs_read k [] main n = refl
subs_read k (steps ∷ subs) main n =
    let rest = sub_lines (k + 1) subs (Path ∷ main) in
    ap₂ (λ (s : List Written) (ss : List (List Written)). s ∷ ss)
    (steps_read steps rest (no_step (k + 1) subs main) (n + 1))
    (behind_steps rest (λ n lines. map (map written) (subs_at n lines)) subs (λ n m lines. refl) (λ n m lines. refl)
    (subs_read (k + 1) subs main) steps (n + 1))

-- the lines of the main path, behind those of sub-paths, are read as its steps
main_read : (k : ℕ) (subs : List (List Written)) (main : List Written) (behind : List Line) → NoStep behind → (n : ℕ) →
    map written (main_at n (sub_lines k subs (Path ∷ step_lines main behind))) ≡ main
main_read k [] main behind none n = steps_read main behind none (n + 1)
main_read k (steps ∷ subs) main behind none n =
    behind_steps (sub_lines (k + 1) subs (Path ∷ step_lines main behind))
    (λ n lines. map written (main_at n lines)) main (λ n m lines. refl) (λ n m lines. refl)
    (main_read (k + 1) subs main behind none) steps (n + 1)

-- the errors behind the lines of a path proof are read as they are without it before them
proofs_read : (k : ℕ) (subs : List (List Written)) (main : List Written) (behind : List Line) (want : List WrittenError)
    → ((n : ℕ) → map written_proof (proofs_at n behind) ≡ want) → (n : ℕ) →
    map written_proof (proofs_at n (sub_lines k subs (Path ∷ step_lines main behind))) ≡ want
proofs_read k [] main behind want is n =
    behind_steps behind (λ n lines. map written_proof (proofs_at n lines)) want (λ n m lines. refl)
    (λ n m lines. refl) is main (n + 1)
proofs_read k (steps ∷ subs) main behind want is n =
    behind_steps (sub_lines (k + 1) subs (Path ∷ step_lines main behind))
    (λ n lines. map written_proof (proofs_at n lines)) want (λ n m lines. refl) (λ n m lines. refl)
    (proofs_read (k + 1) subs main behind want is) steps (n + 1)

errors_end : (errors : List WrittenError) → NoStep (error_lines errors)
errors_end [] n = refl
errors_end (e ∷ errors) n = refl

-- the lines of errors are read as these errors
errors_read : (errors : List WrittenError) (n : ℕ) → map written_proof (proofs_at n (error_lines errors)) ≡ errors
errors_read [] n = refl
errors_read (e ∷ errors) n =
    let behind = error_lines errors in
    let subs = subs_read 1 e.subs (step_lines e.main behind) (n + 1) in
    let main = main_read 1 e.subs e.main behind (errors_end errors) (n + 1) in
    ap₂ (λ (e : WrittenError) (es : List WrittenError). e ∷ es)
    (ap₂ (λ (s : List (List Written)) (m : List Written). let error : WrittenError = record { subs = s; main = m } in
    error) subs main)
    (proofs_read 1 e.subs e.main behind errors (errors_read errors) (n + 1))

pub errors_read_back : ErrorsReadBack
errors_read_back errors = errors_read errors 2
